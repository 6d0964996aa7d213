-- The lockstep history of a script keeps what is promised.
use Rattle.std.proofs.Common.{◌≡◌, ℕ, ◌≤◌, List, ◌++◌, reverse, sym, subst}
use Rattle.page_layers.specs.Axes.{Axis}
use Rattle.model_history.specs.Accepted.{IsAccepted}
use Rattle.model_history.specs.declared.history.Entry.{Entry}
use Rattle.model_history.specs.Legal.{Legal, IsLegal}
use Rattle.model_history.specs.Lockstep.{IsLockstep}
use Rattle.model_history.specs.Scripts.{ScriptModel}
use Rattle.model_history.proofs.LockstepWords.{lockstep_legal, lockstep_ends}
use Rattle.model_history.proofs.OneAnswer.{legal_beginning}
use Rattle.model_history.proofs.Ranged.{playable}
use Rattle.model_history.proofs.Pins.{required_at_each, lacking_at_each}
use Rattle.model_history.proofs.ValueReadings.{active_is_value, offset_in_range}
use Rattle.script_json.proofs.CanonicalTexts.{recording_of}
use Rattle.recording_check.proofs.WrittenRuns.{legal_with_more}
use Rattle.player_lockstep.specs.Recordings.{IsLockstepRecording}
use Rattle.player_run.specs.Promises.{StandsRight, IsSoundHistory, IsPromised}
use Rattle.player_run.specs.Runs.{IsRunOf}
use Rattle.player_run.proofs.Activated.{moved_at_each}

-- after a legal past of an accepted script each scroller stands right
stands_right : (s : ScriptModel) (workers : ℕ) (h : List Entry) (sc : ℕ) (ax : Axis) → IsAccepted s → Legal s workers h → StandsRight s h sc ax
stands_right s workers h sc ax accepted legal = record {
  stepwise = active_is_value s workers h sc ax legal;
  in_range = offset_in_range s workers h sc ax (playable s accepted) legal;
}

-- the prefixes of a legal history are legal
legal_prefix : (s : ScriptModel) (workers : ℕ) (history before after : List Entry) → IsLegal s workers history → before ++ after ≡ history → IsLegal s workers before
legal_prefix s workers history before after legal is = legal_beginning s workers before after (subst (IsLegal s workers) (sym is) legal)

-- a legal history of an accepted script keeps what is promised
pub sound_of : (s : ScriptModel) (workers : ℕ) (history : List Entry) → IsAccepted s → IsLegal s workers history → IsSoundHistory s workers history
sound_of s workers history accepted legal = record {
  legal = legal;
  required = required_at_each s workers (reverse history) legal;
  missing = lacking_at_each s workers (reverse history) legal;
  once = moved_at_each s workers (reverse history) legal;
  offsets = λ before after is sc ax. stands_right s workers (reverse before) sc ax accepted (legal_prefix s workers history before after legal is);
}

pub lockstep_promised : (s : ScriptModel) (workers : ℕ) (history : List Entry) → IsAccepted s → 1 ≤ workers → IsLockstep s history → IsPromised s workers history
lockstep_promised s workers history accepted some lockstep =
    let one : IsLegal s 1 history = lockstep_legal s history lockstep in
    record {
      lockstep = lockstep;
      played = record { sound = sound_of s workers history accepted (legal_with_more s 1 workers (reverse history) some one); ends = lockstep_ends s history lockstep };
    }

-- the recording of the lockstep history is one of a history that keeps what is promised
pub promised_run : (P : List ℕ → Type 0) (s : ScriptModel) (workers : ℕ) → IsAccepted s → 1 ≤ workers → (whole : List ℕ) × IsLockstepRecording s whole × P whole → (whole : List ℕ) × IsRunOf workers s whole × P whole
promised_run P s workers accepted some r = (r.0, (r.1.0, lockstep_promised s workers r.1.0 accepted some r.1.1, recording_of s r.1.0 r.0 accepted.ranges r.1.2), r.2)
