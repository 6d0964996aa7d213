-- What a judge keeps of the main side of a run.
use Rattle.std.specs.Prelude.{◌≡◌, ℕ, suc, Bool, true, false, List, ◌∷◌, Option, Some, None}
use Rattle.model_states.specs.Kinds.{is_main_idle}
use Rattle.page_layers.specs.declared.moves.Move.{Move}
use Rattle.model_history.specs.declared.event.Event.{Event}
use Rattle.model_history.specs.declared.event.Event.TheVariants as event
use Rattle.model_history.specs.declared.history.Entry.{Entry}
use Rattle.model_history.specs.Scripts.{ScriptModel}
use Rattle.model_history.specs.Accepted.{IsPlayable}
use Rattle.model_history.specs.Commits.{CommitModel}
use Rattle.model_history.specs.EventFields.{sends}
use Rattle.model_history.specs.Scans.{counted, newest}
use Rattle.model_history.specs.Frames.{page, changes, pulls_of}
use Rattle.model_history.specs.Stamps.{frame_changes}
use Rattle.model_history.specs.SameChanges.{SameChanges}
use Rattle.model_history.specs.Legal.{sched, Legal}
use Rattle.model_steps.specs.Events.{send}
use Rattle.main_host.specs.Hosts.{HasRun}
use Rattle.main_host.specs.declared.main_end.MainEnd.{MainEnd}
use Rattle.main_host.specs.declared.main_end.MainEnd.TheVariants as end
use Rattle.recording_judge.specs.declared.judged_main.JudgedMain.{JudgedMain}

-- the commit of frame k of the script with these pulls: the page after it, and what it changed
pub record IsCommitOf (s : ScriptModel) (ps : ℕ → List Move) (k : ℕ) (c : CommitModel) : Type 0 where
  pub script : c.script ≡ s
  pub frame : c.frame ≡ k
  pub page : c.tree ≡ page s ps (suc k)
  pub changes : SameChanges c.changes (frame_changes s ps k)

-- frame k ends so, with these pulls: by its commit exactly if it changes something
abbrev pub IsEndOf : ScriptModel → (ℕ → List Move) → ℕ → MainEnd → Type 0
IsEndOf s ps k (end.Ready c) = (changes s ps k ≡ true) × IsCommitOf s ps k c
IsEndOf s ps k (end.Abort frame) = (changes s ps k ≡ false) × (frame ≡ k)

-- the same of an end that may be missing
abbrev pub EndsSo : ScriptModel → (ℕ → List Move) → ℕ → Option MainEnd → Type 0
EndsSo s ps k None = ⊥
EndsSo s ps k (Some e) = IsEndOf s ps k e

-- it is the commit of frame k
abbrev pub IsCommitted : ScriptModel → (ℕ → List Move) → ℕ → Option MainEnd → Type 0
IsCommitted s ps k None = ⊥
IsCommitted s ps k (Some (end.Ready c)) = IsCommitOf s ps k c
IsCommitted s ps k (Some (end.Abort frame)) = ⊥

-- the commit by which the frame ends, if it ends so
abbrev pub commit_of : Option MainEnd → Option CommitModel
commit_of None = None
commit_of (Some (end.Ready c)) = Some c
commit_of (Some (end.Abort k)) = None

-- the event by which the frame ends, if it ends so
abbrev pub ready_event : Option MainEnd → Option Event
ready_event None = None
ready_event (Some (end.Ready c)) = Some (event.Ready c.frame)
ready_event (Some (end.Abort k)) = None

abbrev pub abort_event : Option MainEnd → Option Event
abort_event None = None
abort_event (Some (end.Ready c)) = None
abort_event (Some (end.Abort k)) = Some (event.Abort k)

-- n frames were sent and run; the last of them, if it has not ended, is to end so
pub record MainOf (s : ScriptModel) (ps : ℕ → List Move) (n : ℕ) (side : JudgedMain) (idle : Bool) (last : Option ℕ) : Type 0 where
  pub run : HasRun s ps n side.host
  pub ends : idle ≡ false → (k : ℕ) → last ≡ Some k → EndsSo s ps k side.end

-- it is the main side of a run of the script after this past
abbrev pub IsMain : ScriptModel → List Entry → JudgedMain → Type 0
IsMain s h side = MainOf s (pulls_of h) (counted sends h) side (is_main_idle (sched h).main_state) (newest sends h)

-- there is a run in which a main frame may be sent next with these pulls
pub record MainSends (side : JudgedMain) (ms : List Move) : Type 0 where
  pub script : ScriptModel
  pub workers : ℕ
  pub past : List Entry
  pub actor : ℕ
  pub frame : ℕ
  pub playable : IsPlayable script
  pub legal : Legal script workers (send actor frame ms ∷ past)
  pub main : IsMain script past side
