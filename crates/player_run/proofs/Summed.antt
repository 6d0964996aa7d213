-- The counts of a run are those of its recording.
use Rattle.std.proofs.Common.{◌≡◌, ℕ, List, [], ◌++◌, None, Some, refl, ap, ◌∙◌, subst}
use Rattle.std.specs.Prelude.{Option, IfSome}
use Rattle.model_history.specs.declared.history.Entry.{Entry}
use Rattle.model_history.specs.Lockstep.{IsLockstep}
use Rattle.model_history.specs.Scripts.{ScriptModel}
use Rattle.model_history.proofs.LockstepWords.{lockstep_one}
use Rattle.script_json.specs.Recordings.{recording}
use Rattle.player_lockstep.specs.Recordings.{IsLockstepRecording}
use Rattle.player_uses.specs.declared.outcome.Outcome.{Outcome}
use Rattle.player_uses.specs.declared.summary.Summary.{Summary}
use Rattle.player_uses.specs.Demos.{demo_line}
use Rattle.player_uses.specs.Outputs.{WritesSome}
use Rattle.player_uses.specs.Summaries.{IsSummary, summary_line}
use Rattle.player_uses.proofs.Outputs.{some_as}
use Rattle.player_run.specs.Runs.{IsDemoOf}
use Rattle.player_run.specs.inner.Summaries.{IsDemoSummary}

-- what a sink was given that had nothing is the recording of the run
given : (s : ScriptModel) (h : List Entry) (old new : List ℕ) → old ≡ [] → IsLockstep s h → (whole : List ℕ) × IsLockstepRecording s whole × (new ≡ old ++ whole) → new ≡ recording s h
given s h old new empty lockstep r =
    r.2 ∙ ap (λ (w : List ℕ). w ++ r.0) empty ∙ r.1.2 ∙ ap (recording s) (lockstep_one s r.1.0 h r.1.1 lockstep)

pub summed : (s : ScriptModel) (h : List Entry) (old new : List ℕ) (r : Option Summary) → old ≡ [] → IsLockstep s h → (whole : List ℕ) × IsLockstepRecording s whole × (new ≡ old ++ whole) → IfSome r (IsSummary h new) → IfSome r (IsDemoSummary s)
summed s h old new None empty lockstep gained is = tt
summed s h old new (Some summary) empty lockstep gained is =
    (h, lockstep, subst (λ (w : List ℕ). IsSummary h w summary) (given s h old new empty lockstep gained) is)

-- their line is the line of the run
line_is : (s : ScriptModel) (h : List Entry) (summary : Summary) → IsSummary h (recording s h) summary → summary_line summary ≡ demo_line s h
line_is s h summary is = rw is.events (rw is.images (rw is.missing (rw is.bytes (rw is.sum refl))))

pub demo_written : (s : ScriptModel) (summary : Summary) (old new : Option (List ℕ)) (o : Outcome) → IsDemoSummary s summary → WritesSome (λ whole. whole ≡ summary_line summary) old new o → WritesSome (IsDemoOf s) old new o
demo_written s summary old new o is wrote = some_as (λ whole. whole ≡ summary_line summary) (IsDemoOf s) old new o (λ whole line. (is.0, is.1, line ∙ line_is s is.0 summary is.2)) wrote
