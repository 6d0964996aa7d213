-- What is left to play gets less by each part.
use Rattle.std.proofs.Common.{◌≡◌, ℕ, suc, ◌+◌, ◌<◌, ◌≤◌, Bool, true, false, List, [], ◌∷◌, length, sym, subst, arith}
use Rattle.model_history.specs.declared.history.Entry.{Entry}
use Rattle.model_history.specs.declared.input.Input.{Input}
use Rattle.model_history.specs.Lockstep.{waits, Round}
use Rattle.model_history.specs.Scripts.{ScriptModel}
use Rattle.model_lockstep.specs.Measures.{left_to_play, one_if, rounds_left, to_play}
use Rattle.model_lockstep.specs.Receivers.{HasTaken, TakesPart}
use Rattle.model_lockstep.specs.Walks.{WalkState}
use Rattle.model_lockstep.proofs.Falls.{round_falls}

one_at_most : (b : Bool) → one_if b < 2
one_at_most true = omega arith
one_at_most false = omega arith

-- rounds weigh less than an input
rounds_below : (s : ScriptModel) (h : List Entry) → rounds_left s h < suc (suc (length s.main))
unfolding rounds_left
rounds_below s h = let one = one_at_most (waits h) in omega (arith, one)

fewer_left : {X : Type 0} (xs : List X) (weight a b : ℕ) → a < b → left_to_play xs weight a < left_to_play xs weight b
fewer_left [] weight a b l = l
fewer_left (x ∷ xs) weight a b l = let r = fewer_left xs weight a b l in omega (arith, r)

lighter : {X : Type 0} (xs : List X) (weight a b : ℕ) → a < weight → left_to_play xs weight a < weight + left_to_play xs weight b
lighter [] weight a b l = omega (arith, l)
lighter (x ∷ xs) weight a b l = let r = lighter xs weight a b l in omega (arith, r)

-- nothing is nearer than no input
pub nearer_none : (left inputs : List Input) (old new : WalkState) → new.script ≡ old.script → length left ≡ 0 → 1 ≤ length inputs → to_play left new < to_play inputs old
nearer_none (i ∷ left) inputs old new same none some = absurd (omega (arith, none))
nearer_none [] [] old new same none some = absurd (omega (arith, some))
nearer_none [] (i ∷ is) old new same none some =
    let below = rounds_below old.script new.past in
    subst (λ (s : ScriptModel). rounds_left s new.past < to_play (i ∷ is) old) (sym same) (omega (arith, below))

module _ (left after : List Input) (i : Input) (is : left ≡ i ∷ after) (old new : WalkState) where
  pub nearer_after : TakesPart i true old new → to_play after new < to_play left old
  nearer_after (none, taken) =
      let weight : ℕ = suc (suc (length old.script.main)) in
      let light = lighter after weight (rounds_left old.script new.past) (rounds_left old.script old.past) (rounds_below old.script new.past) in
      subst (λ (xs : List Input). to_play after new < to_play xs old) (sym is)
      (subst (λ (s : ScriptModel). left_to_play after (suc (suc (length s.main))) (rounds_left s new.past) < to_play (i ∷ after) old) (sym taken.same) light)

  pub nearer_there : TakesPart i false old new → to_play left new < to_play left old
  nearer_there (t, taken) =
      let fewer = fewer_left left (suc (suc (length old.script.main))) (rounds_left old.script new.past) (rounds_left old.script old.past) (round_falls old.script old.past new.past taken.way) in
      subst (λ (s : ScriptModel). left_to_play left (suc (suc (length s.main))) (rounds_left s new.past) < to_play left old) (sym taken.same) fewer
