-- What a log keeps, once its script has grown.
use Rattle.std.proofs.Common.{◌≡◌, ℕ, zero, suc, ◌≤◌, true, false, List, [], ◌∷◌, ◌++◌, length, slice_get, Some, None, refl, sym, ◌∙◌, ap, subst, arith}
use Rattle.model_states.specs.Kinds.{is_sent}
use Rattle.page_layers.specs.declared.command.Command.{Command}
use Rattle.model_history.specs.declared.input.Input.{Input}
use Rattle.model_history.specs.declared.history.Entry.{Entry}
use Rattle.model_history.specs.Scripts.{ScriptModel}
use Rattle.model_history.specs.EventFields.{uses}
use Rattle.model_history.specs.Scans.{counted}
use Rattle.model_history.specs.Due.{input_now}
use Rattle.model_history.specs.Legal.{sched, Legal}
use Rattle.model_history.specs.Growth.{with_input, with_main_frame, with_last, with_commands, has_looked_ahead}
use Rattle.model_history.proofs.Grown.{legal_alike}
use Rattle.model_history.proofs.GrownSteps.{reads_input, reads_main_frame, reads_commands, one_waits, one_longer}
use Rattle.model_history.proofs.UsedInputs.{uses_few}
use Rattle.impl_log.specs.declared.progress.Progress.{Progress}
use Rattle.impl_log.specs.declared.milestones.Milestones.{Milestones}
use Rattle.impl_log.specs.declared.known_inputs.KnownInputs.{KnownInputs}
use Rattle.impl_log.specs.declared.known_inputs.KnownInputs.TheVariants as known
use Rattle.impl_log.specs.inner.Known.{AreKnown}
use Rattle.impl_log.specs.inner.Logs.{IsLogOf}

-- a log whose script is another one, for which the past is legal too
grown : (s t : ScriptModel) (n : ℕ) (h : List Entry) (p : Progress) (spare : ℕ) (places : Milestones) (front : ℕ) → Legal t n h → IsLogOf s n h p spare places front → IsLogOf t n h p spare places front
grown s t n h p spare places front legal log = record {
  legal = legal;
  few = log.few;
  progress = log.progress;
  room = log.room;
  newest = log.newest;
  older = log.older;
  first = log.first;
}

module _ (s new : ScriptModel) (n : ℕ) (h : List Entry) (p : Progress) (spare : ℕ) (places : Milestones) (front : ℕ) (looked : has_looked_ahead h ≡ false) (log : IsLogOf s n h p spare places front) where
  as_is : (t : ScriptModel) → new ≡ t → Legal t n h → IsLogOf new n h p spare places front
  as_is t is legal = subst (λ (z : ScriptModel). IsLogOf z n h p spare places front) (sym is) (grown s t n h p spare places front legal log)

  pub grown_by_input : (x : Input) → new ≡ with_input s x → IsLogOf new n h p spare places front
  grown_by_input x is = as_is (with_input s x) is (legal_alike s n h s.main (s.inputs ++ x ∷ []) log.legal looked (reads_input s n h x log.legal))

  pub grown_by_main_frame : new ≡ with_main_frame s → IsLogOf new n h p spare places front
  grown_by_main_frame is = as_is (with_main_frame s) is (legal_alike s n h (s.main ++ [] ∷ []) s.inputs log.legal looked (reads_main_frame s n h log.legal))

  pub grown_by_commands : (cs : List Command) → new ≡ with_commands s cs → is_sent (sched h).main_state ≡ true → IsLogOf new n h p spare places front
  grown_by_commands cs is sent =
      as_is (with_commands s cs) is (legal_alike s n h (with_last cs s.main) s.inputs log.legal looked (reads_commands s n h cs log.legal (one_waits s n h log.legal sent)))

-- ---- the inputs that it can read

-- none is there where all are used
none_left : {A : Type 0} (xs : List A) (i : ℕ) → slice_get xs i ≡ None → length xs ≤ i
none_left [] i e = omega arith
none_left (x ∷ xs) zero e = cc
none_left (x ∷ xs) (suc i) e = let l = none_left xs i e in omega (arith, l)

-- what is told then is the next one
told_next : {A : Type 0} (xs : List A) (x : A) (i : ℕ) → length xs ≡ i → slice_get (xs ++ x ∷ []) i ≡ Some x
told_next [] x zero e = refl
told_next [] x (suc i) e = absurd (omega (arith, e))
told_next (y ∷ xs) x zero e = absurd (omega (arith, e))
told_next (y ∷ xs) x (suc i) e = told_next xs x i (omega (arith, e))

pub knows_told : (s : ScriptModel) (n : ℕ) (h : List Entry) (x : Input) (inputs : List Input) (used : ℕ) → Legal s n h → input_now s h ≡ None → used ≡ counted uses h → inputs ≡ s.inputs ++ x ∷ []
    → AreKnown inputs used (known.Next (Some x))
knows_told s n h x inputs used legal none is more =
    let most = none_left s.inputs (counted uses h) none in
    let few = uses_few s n h legal in
    let longer = ap (λ (xs : List Input). length xs) more ∙ one_longer s.inputs x in
    (omega (arith, most, few, longer, is), ap (λ (xs : List Input). slice_get xs used) more ∙ told_next s.inputs x used (omega (arith, most, few, is)))

-- other main frames leave them
pub knows_still : (inputs new : List Input) (used : ℕ) (k : KnownInputs) → new ≡ inputs → AreKnown inputs used k → AreKnown new used k
knows_still inputs new used k is knows = subst (λ (xs : List Input). AreKnown xs used k) (sym is) knows
