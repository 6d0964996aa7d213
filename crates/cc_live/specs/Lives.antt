-- A live compositor: what its calls have told so far, as the script of a run that grows, and what is not done yet.
use Rattle.std.specs.Prelude.{◌≡◌, ℕ, List, [], Option, Some, None, slice_index_or}
use Rattle.tile_raster.specs.declared.job.Job.{Job}
use Rattle.tile_raster.specs.Images.{Image}
use Rattle.page_layers.specs.declared.command.Command.{Command}
use Rattle.page_layers.specs.Pages.{Page}
use Rattle.model_states.specs.declared.kind.Kind.{Kind}
use Rattle.model_history.specs.declared.input.Input.{Input}
use Rattle.model_history.specs.Scripts.{ScriptModel}
use Rattle.model_history.specs.Growth.{with_input, with_main_frame}
use Rattle.impl_log.specs.Runs.{Run, with_script, Entered}
use Rattle.cc_live.specs.declared.settings.Settings.{Settings}
use Rattle.cc_live.specs.declared.open_frame.OpenFrame.{OpenFrame}

-- a main frame that is open: the page after its pulls and its commands so far, and these commands
pub record OpenModel : Type 0 where
  pub page : Page
  pub commands : List Command

-- the run of the script that was told so far; the input that was told and is not used yet, if there is one; for each slot the job that is out; the page after the main frames that were answered; and the main frame that is open, if one is
pub record LiveModel : Type 0 where
  pub run : Run
  pub waits : Option Input
  pub jobs : List (Option Job)
  pub main : Page
  pub open_frame : Option OpenModel

-- what contracts see of a main frame that is open
abbrev pub open_of : Option OpenFrame → Option OpenModel
open_of None = None
open_of (Some frame) = Some (record { page = frame.page; commands = frame.commands.items })

-- the script before anything was told: the settings, no main frame and no input
abbrev pub first_script : Settings → ScriptModel
first_script s = record {
  version = 2;
  viewport_w = s.viewport_w;
  viewport_h = s.viewport_h;
  tile = s.tile;
  background = s.background;
  budget = s.budget;
  raster_per_frame = 0;
  soon = s.soon;
  eventually = s.eventually;
  priority = s.priority;
  main = [];
  inputs = [];
}

-- the job that is out at a slot, if one is
abbrev pub job_at : LiveModel → ℕ → Option Job
job_at l slot = slice_index_or l.jobs slot None

-- what a job makes
abbrev pub image_of : Job → Image
image_of job = record { key = job.key; rect = job.rect; list = job.list.value }

-- the image is what the job at its slot makes
abbrev pub IsImageOf : Option Job → Image → Type 0
IsImageOf None image = ⊥
IsImageOf (Some job) image = image ≡ image_of job

-- a job that is out: its slot, and what it makes
pub record TicketModel : Type 0 where
  pub slot : ℕ
  pub image : Image

-- the ticket of the job at a slot
abbrev pub ticket_of : ℕ → Job → TicketModel
ticket_of slot job = record { slot = slot; image = image_of job }

-- an input is told: it is the last one of the script, and waits
abbrev pub with_told : LiveModel → Input → LiveModel
with_told l x = record l { run = with_script l.run (with_input l.run.script x); waits = Some x }

-- a main frame is told: it is the last one of the script, and has no commands yet
abbrev pub with_frame_told : LiveModel → LiveModel
with_frame_told l = record l { run = with_script l.run (with_main_frame l.run.script) }

-- the compositor's one event of this kind that might come was entered, and the rest stays
pub record Enters (old : LiveModel) (k : Kind) (new : LiveModel) : Type 0 where
  pub entered : Entered old.run k 0 new.run
  pub rest : new ≡ record old { run = new.run }

-- the same, which used the input that waited
pub record Uses (old : LiveModel) (k : Kind) (new : LiveModel) : Type 0 where
  pub entered : Entered old.run k 0 new.run
  pub rest : new ≡ record old { run = new.run; waits = None }
