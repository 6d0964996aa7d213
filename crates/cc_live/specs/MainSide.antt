-- What the calls of the main thread answer.
use Rattle.std.specs.Prelude.{◌≡◌, ◌⊎◌, ℕ, ◌≤◌, ◌<◌, Bool, true, false, List, [], ◌∷◌, ◌++◌, length, Some, None, Result, Ok, Err, ⊤}
use Rattle.std.specs.List.{list_any}
use Rattle.page_layers.specs.declared.command.Command.{Command}
use Rattle.page_layers.specs.declared.moves.Move.{Move}
use Rattle.page_layers.specs.Pages.{Page}
use Rattle.page_layers.specs.Effects.{page_after_command, page_after_pulls, commanded}
use Rattle.page_layers.specs.Outcomes.{Accepts, Refuses}
use Rattle.model_history.specs.declared.event.Event.{Event}
use Rattle.model_history.specs.declared.event.Event.TheVariants as event
use Rattle.model_history.specs.Frames.{changes, pulls_of}
use Rattle.model_history.specs.Growth.{with_commands}
use Rattle.model_history.specs.SameChanges.{SameChanges}
use Rattle.model_history.specs.Scrolls.{scrolls_to}
use Rattle.model_history.specs.Stamps.{changed_by, unchanged}
use Rattle.impl_scroll.specs.Rows.{has_number}
use Rattle.impl_core.specs.Handovers.{IsPreparedFor}
use Rattle.impl_core.specs.Replies.{told_frame}
use Rattle.impl_core.specs.declared.handed.Handed.{Handed}
use Rattle.impl_log.specs.Runs.{Run, past, with_entry, with_script}
use Rattle.cc_live.specs.declared.main_fault.MainFault.{MainFault}
use Rattle.cc_live.specs.declared.main_fault.MainFault.TheVariants as fault
use Rattle.cc_live.specs.declared.main_fault.Ended.{Ended}
use Rattle.cc_live.specs.declared.main_fault.Ended.TheVariants as ended
use Rattle.cc_live.specs.declared.open_frame.OpenFrame.{OpenFrame}
use Rattle.cc_live.specs.Lives.{LiveModel, OpenModel}

-- the main frame in flight was opened, with its pulls, which are the answer; or none is in flight, or memory was refused, and nothing has changed
abbrev pub Opens : LiveModel → LiveModel → Result (List Move) MainFault → Type 0
Opens old new (Ok pulls) = (frame : ℕ) × (told_frame old.run ≡ Some (frame, pulls)) × (new ≡ record old { open_frame = Some (record { page = page_after_pulls pulls old.main; commands = [] }) })
Opens old new (Err fault.NotNow) = (told_frame old.run ≡ None) × (new ≡ old)
Opens old new (Err (fault.Memory e)) = new ≡ old
Opens old new (Err _) = ⊥

-- the page after the pulls of the main frame in flight, and these pulls; or none is in flight; or memory was refused
abbrev pub OpensPage : LiveModel → Result (Page × List Move) MainFault → Type 0
OpensPage l (Ok opened) = (frame : ℕ) × (told_frame l.run ≡ Some (frame, opened.1)) × (opened.0 ≡ page_after_pulls opened.1 l.main)
OpensPage l (Err fault.NotNow) = told_frame l.run ≡ None
OpensPage l (Err (fault.Memory e)) = ⊤
OpensPage l (Err _) = ⊥

-- an open main frame with a command more, which its page took
abbrev pub edited : OpenModel → Command → OpenModel
edited frame c = record { page = page_after_command frame.page c; commands = frame.commands ++ c ∷ [] }

-- the page of the open main frame took the command; or it refused it with its first fault; or no main frame is open; or the frame has as many commands as it may; or memory was refused. After any error nothing has changed
abbrev pub Edits : LiveModel → Command → LiveModel → Result ⊤ MainFault → Type 0
Edits old c new (Ok u) = (frame : OpenModel) × (old.open_frame ≡ Some frame) × Accepts frame.page c × (new ≡ record old { open_frame = Some (edited frame c) })
Edits old c new (Err (fault.Refused why)) = (frame : OpenModel) × (old.open_frame ≡ Some frame) × Refuses frame.page c why × (new ≡ old)
Edits old c new (Err fault.NotNow) = (old.open_frame ≡ None) × (new ≡ old)
Edits old c new (Err fault.Worn) = (frame : OpenModel) × (old.open_frame ≡ Some frame) × (4294967295 ≤ length frame.commands) × (new ≡ old)
Edits old c new (Err (fault.Memory e)) = new ≡ old

-- the run once the main frame in flight was told these commands
abbrev pub told_run : Run → List Command → Run
told_run r cs = with_script r (with_commands r.script cs)

-- the event that answers a main frame
abbrev pub answer_of : Ended → ℕ → Event
answer_of ended.Ready k = event.Ready k
answer_of ended.Unchanged k = event.Abort k

-- it is ready to be committed
abbrev pub is_ready : Ended → Bool
is_ready ended.Ready = true
is_ready ended.Unchanged = false

-- the event that answers the main frame in flight was entered, and the page after the frame is kept
pub record AnswersBy (old : LiveModel) (new : LiveModel) (e : Event) : Type 0 where
  pub entered : new.run ≡ with_entry old.run 1 e
  pub rest : new ≡ record old { run = new.run; main = new.main }

-- the main frame in flight was answered: by a commit exactly if it changes something
pub record Answers (old : LiveModel) (frame : ℕ) (new : LiveModel) (e : Ended) : Type 0 where
  pub changed : is_ready e ≡ changes old.run.script (pulls_of (past old.run)) frame
  pub entered : new.run ≡ with_entry old.run 1 (answer_of e frame)
  pub rest : new ≡ record old { run = new.run; main = new.main }

-- the open main frame was told and answered
pub record EndsFrame (old new : LiveModel) (e : Ended) : Type 0 where
  pub frame : ℕ
  pub pulls : List Move
  pub in_flight : told_frame old.run ≡ Some (frame, pulls)
  pub open_frame : OpenModel
  pub was_open : old.open_frame ≡ Some open_frame
  pub answers : Answers (record old { run = told_run old.run open_frame.commands; open_frame = None }) frame new e

-- memory was refused: nothing has changed, or the open main frame was given up once its commands were told
abbrev pub GaveUp : LiveModel → LiveModel → Type 0
GaveUp old new = (new ≡ old) ⊎ ((frame : OpenModel) × (old.open_frame ≡ Some frame) × (new ≡ record old { run = told_run old.run frame.commands; open_frame = None }))

-- the open main frame was told and answered; or none is open, or none is in flight, and nothing has changed; or memory was refused
abbrev pub Ends : LiveModel → LiveModel → Result Ended MainFault → Type 0
Ends old new (Ok e) = EndsFrame old new e
Ends old new (Err fault.NotNow) = ((told_frame old.run ≡ None) ⊎ (old.open_frame ≡ None)) × (new ≡ old)
Ends old new (Err (fault.Memory e)) = GaveUp old new
Ends old new (Err _) = ⊥

-- a command was applied to an open main frame, or was refused, as for `Edits`
abbrev pub EditsFrame : OpenFrame → Command → OpenFrame → Result ⊤ MainFault → Type 0
EditsFrame old c new (Ok u) = Accepts old.page c × (new.page ≡ page_after_command old.page c) × (new.commands.items ≡ old.commands.items ++ c ∷ []) × (length old.commands.items < 4294967295)
EditsFrame old c new (Err (fault.Refused why)) = Refuses old.page c why × (new.page ≡ old.page) × (new.commands.items ≡ old.commands.items)
EditsFrame old c new (Err fault.Worn) = (4294967295 ≤ length old.commands.items) × (new.page ≡ old.page) × (new.commands.items ≡ old.commands.items)
EditsFrame old c new (Err (fault.Memory e)) = (new.page ≡ old.page) × (new.commands.items ≡ old.commands.items)
EditsFrame old c new (Err _) = ⊥

-- the page after these pulls and commands, what the commands changed, and the scrollers that they set outright
pub record MadeOf (p : Page) (pulls : List Move) (cs : List Command) (handed : Handed) : Type 0 where
  pub page : handed.tree.value ≡ commanded cs (page_after_pulls pulls p)
  pub changes : SameChanges handed.changes (changed_by (page_after_pulls pulls p) cs unchanged)
  pub outright : (sc : ℕ) → has_number handed.outright.items sc ≡ list_any (scrolls_to sc) cs

-- what the open main frame makes, with its number: the page after it, what its commands changed, and the scrollers that they set outright
pub record Makes (l : LiveModel) (frame : ℕ) (handed : Handed) : Type 0 where
  pub pulls : List Move
  pub in_flight : told_frame l.run ≡ Some (frame, pulls)
  pub open_frame : OpenModel
  pub was_open : l.open_frame ≡ Some open_frame
  pub page : handed.tree.value ≡ commanded open_frame.commands (page_after_pulls pulls l.main)
  pub changes : SameChanges handed.changes (changed_by (page_after_pulls pulls l.main) open_frame.commands unchanged)
  pub outright : (sc : ℕ) → has_number handed.outright.items sc ≡ list_any (scrolls_to sc) open_frame.commands

-- it was made; or none is open, or none is in flight; or memory was refused
abbrev pub MakesFrame : LiveModel → Result (ℕ × Handed) MainFault → Type 0
MakesFrame l (Ok made) = Makes l made.0 made.1
MakesFrame l (Err fault.NotNow) = (told_frame l.run ≡ None) ⊎ (l.open_frame ≡ None)
MakesFrame l (Err (fault.Memory e)) = ⊤
MakesFrame l (Err _) = ⊥

-- what is handed over is what the main frame in flight makes, by the script, and none is open
pub record IsMade (l : LiveModel) (frame : ℕ) (handed : Handed) : Type 0 where
  pub closed : l.open_frame ≡ None
  pub pulls : List Move
  pub in_flight : told_frame l.run ≡ Some (frame, pulls)
  pub prepared : IsPreparedFor l.run.script (pulls_of (past l.run)) frame handed.tree.value handed.changes handed.outright.items
