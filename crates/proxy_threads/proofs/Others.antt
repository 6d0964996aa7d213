-- What stays while only others enter events.
use Rattle.std.proofs.Common.{◌≡◌, ◌≢◌, ℕ, ◌+◌, ◌==◌, Bool, true, false, cond, List, [], ◌∷◌, ◌++◌, length, refl, sym, ◌∙◌, ap, subst, arith, length-append}
use Rattle.std.proofs.lemmas.List.Elements.{filter-append}
use mathlib.Core.List.{IsPrefix, reverse_aux}
use Rattle.thread_lock.specs.Lists.{entries_by}
use Rattle.model_history.specs.declared.event.Event.{Event}
use Rattle.model_history.specs.declared.history.Entry.{Entry}
use Rattle.model_history.specs.Scripts.{ScriptModel}
use Rattle.model_history.specs.EventFields.{is_last}
use Rattle.model_history.specs.Scans.{has_ended}
use Rattle.model_history.specs.Legal.{Legal}
use Rattle.model_history.proofs.BoolFacts.{by_test, or_right, other_number}
use Rattle.proxy_threads.specs.Seats.{entry_of_pair, entries_of, past_of}

-- a past with newer entries, the oldest of them first
abbrev pub grown : List Entry → List (ℕ × Event) → List Entry
grown h [] = h
grown h (x ∷ xs) = grown (entry_of_pair x ∷ h) xs

pub grown_aux : (xs : List (ℕ × Event)) (h : List Entry) → reverse_aux (entries_of xs) h ≡ grown h xs
grown_aux [] h = refl
grown_aux (x ∷ xs) h = grown_aux xs (entry_of_pair x ∷ h)

grown_more : (xs ys : List (ℕ × Event)) (h : List Entry) → grown h (xs ++ ys) ≡ grown (grown h xs) ys
grown_more [] ys h = refl
grown_more (x ∷ xs) ys h = grown_more xs ys (entry_of_pair x ∷ h)

pub past_grown : (xs : List (ℕ × Event)) → past_of xs ≡ grown [] xs
past_grown xs = grown_aux xs []

-- the past of a longer history
pub past_longer : (xs ys : List (ℕ × Event)) → past_of (xs ++ ys) ≡ grown (past_of xs) ys
past_longer xs ys = past_grown (xs ++ ys) ∙ (grown_more xs ys [] ∙ ap (λ (h : List Entry). grown h ys) (sym (past_grown xs)))

-- what ends a run ends a longer one
pub stays_ended : (ys : List (ℕ × Event)) (h : List Entry) → has_ended h ≡ true → has_ended (grown h ys) ≡ true
stays_ended [] h t = t
stays_ended (y ∷ ys) h t = stays_ended ys (entry_of_pair y ∷ h) (or_right (is_last y.1) (has_ended h) t)

pub ended_since : (xs zs : List (ℕ × Event)) → IsPrefix xs zs → has_ended (past_of xs) ≡ true → has_ended (past_of zs) ≡ true
ended_since xs zs begun t =
    subst (λ (ws : List (ℕ × Event)). has_ended (past_of ws) ≡ true) begun.1
    (subst (λ (h : List Entry). has_ended h ≡ true) (sym (past_longer xs begun.0)) (stays_ended begun.0 (past_of xs) t))

-- ---- what one actor has of a longer history

nothing_long : {X : Type 0} (xs : List X) → length xs ≡ 0 → xs ≡ []
nothing_long [] e = refl
nothing_long (x ∷ xs) e = absurd (omega (arith, e))

no_more : {X : Type 0} (xs ys : List X) → xs ++ ys ≡ xs → ys ≡ []
no_more {X = X} xs ys e =
    let sum : length (xs ++ ys) ≡ length xs + length ys = length-append xs ys in
    let same : length (xs ++ ys) ≡ length xs = ap (λ (zs : List X). length zs) e in
    nothing_long ys (omega (arith, sum, same))

-- where the actor has no more of the longer history, it has nothing of what came since
pub others_since : (a : ℕ) (xs ys : List (ℕ × Event)) → entries_by a (xs ++ ys) ≡ entries_by a xs → entries_by a ys ≡ []
others_since a xs ys e = no_more (entries_by a xs) (entries_by a ys) (sym (filter-append _ xs ys) ∙ e)

-- the first of them is another's, and the others are too
pub record Theirs (a : ℕ) (x : ℕ × Event) (xs : List (ℕ × Event)) : Type 0 where
  pub first : (x.0 == a) ≡ false
  pub others : entries_by a xs ≡ []

pub theirs : (a : ℕ) (x : ℕ × Event) (xs : List (ℕ × Event)) → entries_by a (x ∷ xs) ≡ [] → Theirs a x xs
theirs a x xs e = by_test (x.0 == a) mine other
  where
    mine : (x.0 == a) ≡ true → Theirs a x xs
    mine t = let none : ◌≡◌ {A = List (ℕ × Event)} (x ∷ entries_by a xs) [] = ap (λ (b : Bool). cond b (x ∷ entries_by a xs) (entries_by a xs)) (sym t) ∙ e in absurd (cc (none))

    other : (x.0 == a) ≡ false → Theirs a x xs
    other f = record { first = f; others = ap (λ (b : Bool). cond b (x ∷ entries_by a xs) (entries_by a xs)) (sym f) ∙ e }

-- what is so of a past and stays at each event of another is so of the longer past
module _ (s : ScriptModel) (n a : ℕ) where
  pub legal_front : (ys : List (ℕ × Event)) (h : List Entry) → Legal s n (grown h ys) → Legal s n h
  legal_front [] h legal = legal
  legal_front (y ∷ ys) h legal = (legal_front ys (entry_of_pair y ∷ h) legal).0

  pub kept_by_others : (P : List Entry → Type 0) → ((h : List Entry) (x : ℕ × Event) → Legal s n (entry_of_pair x ∷ h) → x.0 ≢ a → P h → P (entry_of_pair x ∷ h))
      → (ys : List (ℕ × Event)) (h : List Entry) → entries_by a ys ≡ [] → Legal s n (grown h ys) → P h → P (grown h ys)
  kept_by_others P step [] h none legal p = p
  kept_by_others P step (y ∷ ys) h none legal p =
      let t = theirs a y ys none in
      kept_by_others P step ys (entry_of_pair y ∷ h) t.others legal (step h y (legal_front ys (entry_of_pair y ∷ h) legal) (other_number y.0 a t.first) p)
