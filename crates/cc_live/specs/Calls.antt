-- What the calls of a live compositor answer.
use Rattle.std.specs.Prelude.{◌≡◌, ◌⊎◌, ◌≤◌, ◌<◌, ◌+◌, ℕ, Bool, true, false, List, length, Option, Some, None, is_some, Result, Ok, Err, ⊤}
use Rattle.std.specs.declared.alloc.AllocError.{AllocError}
use Rattle.viz_scene.specs.Views.{SceneView}
use Rattle.tile_raster.specs.declared.job.Job.{Job}
use Rattle.tile_raster.specs.Images.{Image}
use Rattle.model_states.specs.declared.kind.Kind.{Kind}
use Rattle.model_states.specs.declared.kind.Kind.TheVariants as kind
use Rattle.model_states.specs.Kinds.{may}
use Rattle.model_history.specs.declared.event.Event.TheVariants as event
use Rattle.model_history.specs.declared.input.Input.{Input}
use Rattle.model_history.specs.declared.input.Input.TheVariants as input
use Rattle.model_history.specs.Ranges.{input_in_range}
use Rattle.model_history.specs.Frames.{is_left}
use Rattle.model_history.specs.Legal.{sched}
use Rattle.impl_log.specs.Runs.{past, now, with_entry}
use Rattle.impl_core.specs.Replies.{DrawsScene, StartsKey, next_key}
use Rattle.cc_live.specs.declared.fault.LiveFault.{LiveFault}
use Rattle.cc_live.specs.declared.fault.LiveFault.TheVariants as fault
use Rattle.cc_live.specs.Lives.{LiveModel, Enters, Uses, with_told, with_frame_told, job_at}

-- the kind of the event that uses an input
abbrev pub kind_using : Input → Kind
kind_using (input.Scroll sc dx dy) = kind.Scroll
kind_using (input.Wheel x y dx dy) = kind.Wheel
kind_using input.Draw = kind.BeginDraw
kind_using (input.Await f) = kind.Await
kind_using input.Settle = kind.Settle

-- an input that a host tells
abbrev pub is_for_host : Input → Bool
is_for_host (input.Await f) = false
is_for_host input.Settle = false
is_for_host _ = true

-- no input waits, or this one does
abbrev pub MayTell : Option Input → Input → Type 0
MayTell None x = ⊤
MayTell (Some y) x = y ≡ x

-- another input waits
abbrev pub WaitsForOther : Option Input → Input → Type 0
WaitsForOther None x = ⊥
WaitsForOther (Some y) x = y ≡ x → ⊥

-- the object once the input was told: as it is if the input waits already
abbrev pub told_of : Option Input → LiveModel → Input → LiveModel
told_of None l x = with_told l x
told_of (Some y) l x = l

abbrev pub told : LiveModel → Input → LiveModel
told l x = told_of l.waits l x

-- how many inputs, and how many main frames, a run is told at most: each has a number of 32 bits
abbrev pub most_told : ℕ
most_told = 4294967294

-- the input was told, unless it waited; or another one waits, or the script takes no input more, and nothing has changed
abbrev pub Tells : LiveModel → Input → LiveModel → Result ⊤ LiveFault → Type 0
Tells old x new (Ok u) = MayTell old.waits x × (new ≡ told old x) × (new.waits ≡ Some x)
Tells old x new (Err fault.NotNow) = WaitsForOther old.waits x × (new ≡ old)
Tells old x new (Err fault.Worn) = (most_told ≤ length old.run.script.inputs) × (new ≡ old)
Tells old x new (Err _) = ⊥

-- the input was told, unless it waited, and was used by its one event. Else: its event may not come in this state, or another input waits; or a number of it is out of its range; or the script takes no input more; or memory was refused, once the input was told
abbrev pub UsesInput : LiveModel → Input → LiveModel → Result ⊤ LiveFault → Type 0
UsesInput old x new (Ok u) = MayTell old.waits x × Uses (told old x) (kind_using x) new
UsesInput old x new (Err fault.NotNow) = ((may (sched (past old.run)) (kind_using x) ≡ false) ⊎ WaitsForOther old.waits x) × (new ≡ old)
UsesInput old x new (Err fault.OutOfRange) = (input_in_range 0 x ≡ false) × (new ≡ old)
UsesInput old x new (Err fault.Worn) = (most_told ≤ length old.run.script.inputs) × (new ≡ old)
UsesInput old x new (Err (fault.Memory e)) = MayTell old.waits x × (new ≡ told old x)

-- the active page was drawn, and this is the scene; or nothing is active, and the draw was skipped; or neither may come, or memory was refused, and nothing has changed
abbrev pub Draws : LiveModel → LiveModel → Result (Option SceneView) LiveFault → Type 0
Draws old new (Ok (Some scene)) = DrawsScene old.run new.run scene × (new ≡ record old { run = new.run })
Draws old new (Ok None) = Enters old kind.Skip new
Draws old new (Err fault.NotNow) = (now old.run kind.Draw 0 ≡ None) × (now old.run kind.Skip 0 ≡ None) × (new ≡ old)
Draws old new (Err (fault.Memory e)) = new ≡ old
Draws old new (Err _) = ⊥

-- the object once a main frame is there to be sent: as it is if one is left
abbrev pub with_frame_left : Bool → LiveModel → LiveModel
with_frame_left true l = l
with_frame_left false l = with_frame_told l

-- a main frame is left to be sent
abbrev pub has_frame : LiveModel → Bool
has_frame l = is_left l.run.script (past l.run)

-- a main frame is there to be sent; or the script has as many as it may, and nothing has changed
abbrev pub LeavesFrame : LiveModel → LiveModel → Result ⊤ LiveFault → Type 0
LeavesFrame old new (Ok u) = new ≡ with_frame_left (has_frame old) old
LeavesFrame old new (Err fault.Worn) = (has_frame old ≡ false) × (most_told ≤ length old.run.script.main) × (new ≡ old)
LeavesFrame old new (Err _) = ⊥

-- the next main frame was sent, which was told before unless one was left; or none may be sent in this state; or the script has as many as it may; or memory was refused, once the frame was told
abbrev pub Asks : LiveModel → LiveModel → Result ⊤ LiveFault → Type 0
Asks old new (Ok u) = Enters (with_frame_left (has_frame old) old) kind.Send new
Asks old new (Err fault.NotNow) = (may (sched (past old.run)) kind.Send ≡ false) × (new ≡ old)
Asks old new (Err fault.Worn) = (has_frame old ≡ false) × (most_told ≤ length old.run.script.main) × (new ≡ old)
Asks old new (Err (fault.Memory e)) = new ≡ with_frame_left (has_frame old) old
Asks old new (Err _) = ⊥

-- at each slot a job is out
abbrev pub AreAllOut : LiveModel → Type 0
AreAllOut l = (slot : ℕ) → slot < length l.jobs → is_some (job_at l slot) ≡ true

-- at a slot where none was out this job is out now, and elsewhere all is as it was
pub record JobIsOut (old : LiveModel) (slot : ℕ) (job : Job) (new : LiveModel) : Type 0 where
  pub free : job_at old slot ≡ None
  pub out : job_at new slot ≡ Some job
  pub others : (other : ℕ) → (other ≡ slot → ⊥) → job_at new other ≡ job_at old other
  pub rest : new ≡ record old { run = new.run; jobs = new.jobs }

-- the next tile was started, and its job is out at this slot; or none may start, or no slot is free, or memory was refused, and nothing has changed
abbrev pub StartsJob : LiveModel → LiveModel → Result (Option ℕ) AllocError → Type 0
StartsJob old new (Ok (Some slot)) = (job : Job) × StartsKey old.run slot job.key new.run × JobIsOut old slot job new
StartsJob old new (Ok None) = ((next_key old.run ≡ None) ⊎ AreAllOut old) × (new ≡ old)
StartsJob old new (Err e) = new ≡ old

-- the tile whose job was out at this slot is there now: no job is out there, and elsewhere all is as it was
pub record HandsIn (old : LiveModel) (slot : ℕ) (image : Image) (new : LiveModel) : Type 0 where
  pub entered : new.run ≡ with_entry old.run (2 + slot) (event.DoneTile slot image.key)
  pub free : job_at new slot ≡ None
  pub others : (other : ℕ) → (other ≡ slot → ⊥) → job_at new other ≡ job_at old other
  pub rest : new ≡ record old { run = new.run; jobs = new.jobs }
