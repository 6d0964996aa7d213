-- Whether a frame changes something is told by its commands and the scrollers that its pulls name.
use Rattle.std.proofs.Common.{◌≡◌, ℕ, suc, ◌+◌, ◌<◌, ℤ, pos, ◌-ℤ◌, Bool, true, false, not, ◌==◌, ◌&&◌, ◌||◌, List, [], ◌∷◌, ◌++◌, length, refl, sym, ◌∙◌, ap, subst, eqb-true, arith}
use Rattle.std.specs.List.{list_any}
use Rattle.std.specs.Ordering.{int_eq}
use Rattle.std.proofs.lemmas.Int.{ints}
use Rattle.std.proofs.lemmas.Bool.Decides.{Decides-int_eq}
use Rattle.page_layers.specs.declared.command.Command.{Command}
use Rattle.page_layers.specs.Pages.{Page}
use Rattle.page_layers.specs.declared.moves.Move.{Move}
use Rattle.model_history.specs.Scripts.{ScriptModel}
use Rattle.page_layers.specs.Axes.{Axis, across, down, amount_in, named_in}
use Rattle.page_layers.specs.Scrollers.{scrollers, main_value}
use Rattle.page_layers.specs.Effects.{page_after_pulls, commanded}
use Rattle.model_history.specs.Frames.{is_empty, commands_of, page, main_move, moves_main, changes}
use Rattle.model_history.specs.Ended.{AreBounded, Tells}
use Rattle.model_history.specs.inner.Ending.{is_moved}
use Rattle.model_history.proofs.BoolFacts.{by_test}
use Rattle.model_history.proofs.FrameFacts.{is_named, amount_other, pulled_other}

-- the pull of a scroller

-- it is not among the first ones
pub record Seeks (sc : ℕ) (all rest : List Move) : Type 0 where
  pub across : amount_in sc across rest ≡ amount_in sc across all
  pub down : amount_in sc down rest ≡ amount_in sc down all
  pub bounded : AreBounded rest

-- the scrollers that the pulls name

same_test : (a b : Bool) → (a ≡ true → b ≡ true) → (b ≡ true → a ≡ true) → a ≡ b
same_test true true f g = refl
same_test true false f g = sym (f refl)
same_test false true f g = g refl
same_test false false f g = refl

by_zero : (z a : ℤ) → z -ℤ a ≡ pos 0 → z ≡ a
by_zero z a e = omega (arith, ints, e)

to_zero : (z a : ℤ) → z ≡ a → z -ℤ a ≡ pos 0
to_zero z a e = omega (arith, ints, e)

less_is_zero : (z a : ℤ) → int_eq (z -ℤ a) (pos 0) ≡ int_eq z a
less_is_zero z a =
    let d = Decides-int_eq (z -ℤ a) (pos 0) in
    let e = Decides-int_eq z a in
    same_test (int_eq (z -ℤ a) (pos 0)) (int_eq z a) (λ t. e.1 (by_zero z a (d.0 t))) (λ t. d.1 (to_zero z a (e.0 t)))

not_both_are : (a b : Bool) → not (a && b) ≡ (not a || not b)
not_both_are true b = refl
not_both_are false b = refl

-- a main move is what a value changed beyond its pull
moves_is_moved : (s : ScriptModel) (ps : ℕ → List Move) (k sc : ℕ) → moves_main s ps k sc ≡ is_moved (page s ps k) (page s ps (suc k)) (ps k) sc
moves_is_moved s ps k sc =
    let v : Axis → ℤ = λ ax. main_value (page s ps (suc k)) sc ax -ℤ main_value (page s ps k) sc ax in
    ap (λ b. not (b && int_eq (main_move s ps k sc down) (pos 0))) (less_is_zero (v across) (amount_in sc across (ps k)))
    ∙ (ap (λ b. not (int_eq (v across) (amount_in sc across (ps k)) && b)) (less_is_zero (v down) (amount_in sc down (ps k)))
    ∙ not_both_are (int_eq (v across) (amount_in sc across (ps k))) (int_eq (v down) (amount_in sc down (ps k))))

-- where there are no commands the scrollers that the pulls do not name stay

stays : (v w a : ℤ) → w ≡ v → a ≡ pos 0 → int_eq (w -ℤ v) a ≡ true
stays v w a e f = let d = Decides-int_eq (w -ℤ v) a in d.1 (omega (arith, ints, e, f))

unnamed_stays : (p : Page) (ms : List Move) (sc : ℕ) → is_named ms sc ≡ false → is_moved p (page_after_pulls ms p) ms sc ≡ false
unnamed_stays p ms sc h =
    let e : (ax : Axis) → int_eq (main_value (page_after_pulls ms p) sc ax -ℤ main_value p sc ax) (amount_in sc ax ms) ≡ true =
    λ ax. stays (main_value p sc ax) (main_value (page_after_pulls ms p) sc ax) (amount_in sc ax ms) (pulled_other sc ax ms p h) (amount_other sc ax ms h) in
    ap (λ b. not b || not (int_eq (main_value (page_after_pulls ms p) sc down -ℤ main_value p sc down) (amount_in sc down ms))) (e across)
    ∙ ap (λ b. not b) (e down)

or_later : (a b : Bool) → b ≡ true → a || b ≡ true
or_later true b h = refl
or_later false b h = h

has_one : (f : ℕ → Bool) (sc : ℕ) (ns : List ℕ) → list_any (λ n. n == sc) ns ≡ true → f sc ≡ true → list_any f ns ≡ true
has_one f sc [] h t = absurd (cc)
has_one f sc (n ∷ ns) h t = go (n == sc) refl h (λ u. has_one f sc ns u t)
  where
    go : (b : Bool) → (n == sc) ≡ b → b || list_any (λ m. m == sc) ns ≡ true → (list_any (λ m. m == sc) ns ≡ true → list_any f ns ≡ true) → f n || list_any f ns ≡ true
    go true e u rest = ap (λ b. b || list_any f ns) (ap f (eqb-true n sc e) ∙ t)
    go false e u rest = or_later (f n) (list_any f ns) (rest u)

-- a test that only named ones pass
named_alone : (f : ℕ → Bool) (ns named : List ℕ) → ((sc : ℕ) → f sc ≡ true → list_any (λ n. n == sc) named ≡ true) → list_any f (ns ++ named) ≡ list_any f named
named_alone f [] named only = refl
named_alone f (n ∷ ns) named only = go (f n) refl (named_alone f ns named only)
  where
    go : (b : Bool) → f n ≡ b → list_any f (ns ++ named) ≡ list_any f named → b || list_any f (ns ++ named) ≡ list_any f named
    go true e rest = sym (has_one f n named (only n e) e)
    go false e rest = rest

any_alike : (f g : ℕ → Bool) → ((n : ℕ) → f n ≡ g n) → (ns : List ℕ) → list_any f ns ≡ list_any g ns
any_alike f g same [] = refl
any_alike f g same (n ∷ ns) = (λ i. same n i || list_any f ns) ∙ ap (λ b. g n || b) (any_alike f g same ns)

without_commands : (s : ScriptModel) (ps : ℕ → List Move) (k : ℕ) → commands_of s k ≡ [] → changes s ps k ≡ list_any (is_moved (page s ps k) (page s ps (suc k)) (ps k)) (named_in (ps k))
without_commands s ps k none =
    let p : Page = page s ps k in
    let q : Page = page s ps (suc k) in
    let after : q ≡ page_after_pulls (ps k) p = ap (λ cs. commanded cs (page_after_pulls (ps k) p)) none in
    let f : ℕ → Bool = is_moved p q (ps k) in
    let ns = scrollers q ++ named_in (ps k) in
    ap (λ (cs : List Command). not (is_empty cs) || list_any (moves_main s ps k) ns) none
    ∙ (any_alike (moves_main s ps k) f (moves_is_moved s ps k) ns
    ∙ named_alone f (scrollers q) (named_in (ps k))
    (λ sc t. named_where sc (subst (λ (x : Page). is_moved p x (ps k) sc ≡ true) after t)))
  where
    named_where : (sc : ℕ) → is_moved (page s ps k) (page_after_pulls (ps k) (page s ps k)) (ps k) sc ≡ true → is_named (ps k) sc ≡ true
    named_where sc t = by_test (is_named (ps k) sc) (λ y. y) (λ n. absurd (two_ways t (unnamed_stays (page s ps k) (ps k) sc n)))
      where
        two_ways : {b : Bool} → b ≡ true → b ≡ false → ⊥
        two_ways e f = cc

-- what the frame's commands tell
pub tells_without : (s : ScriptModel) (k : ℕ) (ms : List Move) (p q : Page) (answer : Bool) → commands_of s k ≡ [] → answer ≡ list_any (is_moved p q ms) (named_in ms) → Tells s k ms p q answer
tells_without s k ms p q answer none is ps pulls before after =
    is ∙ sym (without_commands s ps k none ∙ λ i. list_any (is_moved (sym before i) (sym after i) (pulls i)) (named_in (pulls i)))

no_command : (cs : List Command) → length cs < 1 → cs ≡ []
no_command [] lt = refl
no_command (c ∷ cs) lt = absurd (omega (arith, lt))

pub tells_where_none : (s : ScriptModel) (k : ℕ) (ms : List Move) (p q : Page) (answer : Bool) (cs : List Command) → cs ≡ commands_of s k → length cs < 1
    → answer ≡ list_any (is_moved p q ms) (named_in ms) → Tells s k ms p q answer
tells_where_none s k ms p q answer cs e lt is = tells_without s k ms p q answer (sym e ∙ no_command cs lt) is
