-- Each way of lockstep only adds entries.
use Rattle.std.proofs.Common.{ℕ, zero, suc, ◌≡◌, ◌≤◌, Bool, true, false, not, Some, None, List, [], ◌∷◌, ◌++◌, Option, ap, sym, ◌∙◌, subst, arith}
use Rattle.std.specs.Prelude.{MatchBool}
use Rattle.std.proofs.lemmas.List.{append_assoc}
use Rattle.model_states.specs.declared.kind.Kind.{Kind}
use Rattle.model_states.specs.declared.kind.Kind.TheVariants as kind
use Rattle.model_history.specs.declared.event.Event.{Event}
use Rattle.model_history.specs.declared.history.Entry.{Entry}
use Rattle.model_history.specs.Scripts.{ScriptModel}
use Rattle.model_history.specs.Scans.{one_more, counted}
use Rattle.model_history.specs.Lockstep.{Step, Enters, Stays, Then, Where, Times, While, AtMost, waits, is_possible, Pair, MainPart, ActivateNow, PlainFrame, Round}

-- what the way leads to is what was there, with newer entries before it
abbrev pub Grown : List Entry → List Entry → Type 0
Grown h g = (newer : List Entry) × (g ≡ newer ++ h)

abbrev pub Grows : Step → Type 0
Grows P = (h g : List Entry) → P h g → Grown h g

grown_on : (h m g : List Entry) → Grown h m → Grown m g → Grown h g
grown_on h m g a b = (b.0 ++ a.0, b.1 ∙ ap (λ (z : List Entry). b.0 ++ z) a.1 ∙ sym (append_assoc b.0 a.0 h))

pub enters : (s : ScriptModel) (k : Kind) (a : ℕ) → Grows (Enters s k a)
enters s k a h g x = (record { actor = a; event = x.0 } ∷ [], x.2)

pub stays : Grows Stays
stays h g x = ([], x)

pub both : (P Q : Step) → Grows P → Grows Q → Grows (Then P Q)
both P Q p q h g x = grown_on h x.0 g (p h x.0 x.1) (q x.0 g x.2)

pub either : (test : List Entry → Bool) (P Q : Step) → Grows P → Grows Q → Grows (Where test P Q)
either test P Q p q h g x = by_test (test h) x
  where
    by_test : (b : Bool) → MatchBool b (P h g) (Q h g) → Grown h g
    by_test true y = p h g y
    by_test false y = q h g y

times : (test : List Entry → Bool) (P : Step) → Grows P → (n : ℕ) → Grows (Times test P n)
times test P p zero h g x = ([], x.1)
times test P p (suc n) h g x = grown_on h x.1 g (p h x.1 x.2) (times test P p n x.1 g x.3)

pub loop : (test : List Entry → Bool) (P : Step) → Grows P → Grows (While test P)
loop test P p h g x = times test P p x.0 h g x.1

pub at_most : (test : List Entry → Bool) (P : Step) → Grows P → (n : ℕ) → Grows (AtMost n test P)
at_most test P p zero = stays
at_most test P p (suc n) = either test (Then P (AtMost n test P)) Stays (both P (AtMost n test P) p (at_most test P p n)) stays

-- ---- the parts

pub pair : (s : ScriptModel) → Grows (Pair s)
pair s = both (Enters s kind.Start 2) (Enters s kind.Done 2) (enters s kind.Start 2) (enters s kind.Done 2)

pub main_part : (s : ScriptModel) → Grows (MainPart s)
main_part s =
    both (Enters s kind.Send 0) _ (enters s kind.Send 0)
    (either (is_possible s kind.Abort 1) (Enters s kind.Abort 1) (Then (Enters s kind.Ready 1) (Enters s kind.Commit 0)) (enters s kind.Abort 1) (both (Enters s kind.Ready 1) (Enters s kind.Commit 0) (enters s kind.Ready 1) (enters s kind.Commit 0)))

pub pairs : (s : ScriptModel) → Grows (While (λ h. not (is_possible s kind.Activate 0 h)) (Pair s))
pairs s = loop (λ h. not (is_possible s kind.Activate 0 h)) (Pair s) (pair s)

pub activate_now : (s : ScriptModel) → Grows (ActivateNow s)
activate_now s = both (While (λ h. not (is_possible s kind.Activate 0 h)) (Pair s)) (Enters s kind.Activate 0) (pairs s) (enters s kind.Activate 0)

pub ending : (s : ScriptModel) → Grows (Then (Where waits (ActivateNow s) Stays) (Then (Enters s kind.NoDraw 0) (Enters s kind.Finish 0)))
ending s = both (Where waits (ActivateNow s) Stays) (Then (Enters s kind.NoDraw 0) (Enters s kind.Finish 0)) (either waits (ActivateNow s) Stays (activate_now s) stays) (both (Enters s kind.NoDraw 0) (Enters s kind.Finish 0) (enters s kind.NoDraw 0) (enters s kind.Finish 0))

pub plain_frame : (s : ScriptModel) → Grows (PlainFrame s)
plain_frame s = both (Enters s kind.BeginPlain 0) _ (enters s kind.BeginPlain 0) (both (MainPart s) _ (main_part s) (ending s))

pub round : (s : ScriptModel) → Grows (Round s)
round s = either waits (ActivateNow s) (PlainFrame s) (activate_now s) (plain_frame s)

-- ---- counts

pub counts_grow : (f : Event → Option ℕ) (h g : List Entry) → Grown h g → counted f h ≤ counted f g
counts_grow f h g x = subst (λ (z : List Entry). counted f h ≤ counted f z) (sym x.1) (longer x.0)
  where
    more : (o : Option ℕ) (m n : ℕ) → m ≤ n → m ≤ one_more o n
    more None m n l = l
    more (Some k) m n l = omega (arith, l)

    longer : (newer : List Entry) → counted f h ≤ counted f (newer ++ h)
    longer [] = omega arith
    longer (e ∷ es) = more (f e.event) (counted f h) (counted f (es ++ h)) (longer es)
