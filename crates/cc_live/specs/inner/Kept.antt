-- What a live compositor keeps between two calls.
use Rattle.std.specs.Prelude.{◌≡◌, ◌≤◌, ◌<◌, ◌+◌, ℕ, true, false, List, length, Option, Some, None, slice_index_or, ⊤}
use Rattle.std.specs.List.{list_all}
use Rattle.geom.specs.Covers.{IsSound}
use Rattle.geom.specs.declared.tile.TileKey.{TileKey}
use Rattle.tile_raster.specs.declared.job.Job.{Job}
use Rattle.page_layers.specs.declared.moves.Move.{Move}
use Rattle.page_layers.specs.Pages.{Page}
use Rattle.page_layers.specs.Effects.{page_after_pulls, commanded}
use Rattle.model_states.specs.Kinds.{is_sent}
use Rattle.model_history.specs.declared.history.Entry.{Entry}
use Rattle.model_history.specs.declared.input.Input.{Input}
use Rattle.model_history.specs.Scripts.{ScriptModel}
use Rattle.model_history.specs.Accepted.{TakesAll}
use Rattle.model_history.specs.EventFields.{uses, sends, answers}
use Rattle.model_history.specs.Scans.{counted, held, has_ended}
use Rattle.model_history.specs.Due.{input_now}
use Rattle.model_history.specs.Frames.{page, pulls_of}
use Rattle.model_history.specs.Growth.{has_looked_ahead}
use Rattle.model_history.specs.Legal.{sched}
use Rattle.model_history.specs.Ranges.{command_in_range}
use Rattle.model_history.specs.Sharing.{has_page_key}
use Rattle.model_steps.specs.ShownKeys.{KeyShows}
use Rattle.impl_log.specs.Runs.{Run, past}
use Rattle.cc_live.specs.Lives.{OpenModel}

-- how many inputs wait
abbrev pub waiting : Option Input → ℕ
waiting None = 0
waiting (Some x) = 1

-- nothing has ended the run or looked ahead in it; all inputs were used but for one that waits; at most one main frame is not sent, and none while one is in flight; and the script is of the newest version
pub record IsTold (r : Run) (waits : Option Input) : Type 0 where
  pub going : has_ended (past r) ≡ false
  pub looked : has_looked_ahead (past r) ≡ false
  pub used : length r.script.inputs ≡ counted uses (past r) + waiting waits
  pub next : input_now r.script (past r) ≡ waits
  pub sent : length r.script.main ≤ counted sends (past r) + 1
  pub all_sent : is_sent (sched (past r)).main_state ≡ true → length r.script.main ≤ counted sends (past r)
  pub version : r.script.version ≡ 2

-- the job makes this key, and shows it in every page of the script that has it
pub record IsJobOf (s : ScriptModel) (q : TileKey) (job : Job) : Type 0 where
  pub key : job.key ≡ q
  pub shows : KeyShows s q job.rect job.list.value
  pub sound : IsSound job.rect

-- at the slot of a worker that makes a key its job is out, and at any other none
abbrev pub HasJob : ScriptModel → Option TileKey → Option Job → Type 0
HasJob s None job = job ≡ None
HasJob s (Some q) None = ⊥
HasJob s (Some q) (Some job) = IsJobOf s q job

-- the key is one of a page that the script has by now: no main frame up to it gets other commands
pub record IsSettled (s : ScriptModel) (h : List Entry) (q : TileKey) : Type 0 where
  pub pulls : ℕ → List Move
  pub frames : ℕ
  pub answered : frames ≤ counted answers h
  pub has : has_page_key s pulls frames q ≡ true

abbrev pub IfSettled : ScriptModel → List Entry → Option TileKey → Type 0
IfSettled s h None = ⊤
IfSettled s h (Some q) = IsSettled s h q

-- there is a slot for each worker of the run, with the job that it makes
pub record AreOut (r : Run) (jobs : List (Option Job)) : Type 0 where
  pub count : length jobs ≡ r.workers
  pub each : (w : ℕ) → w < r.workers → HasJob r.script (held w (past r)) (slice_index_or jobs w None)
  pub settled : (w : ℕ) → w < r.workers → IfSettled r.script (past r) (held w (past r))

-- what a slot holds in a list of jobs, where the others stay
pub record Puts (old : List (Option Job)) (slot : ℕ) (job : Option Job) (new : List (Option Job)) : Type 0 where
  pub count : length new ≡ length old
  pub at : slice_index_or new slot None ≡ job
  pub others : (w : ℕ) → (w ≡ slot → ⊥) → slice_index_or new w None ≡ slice_index_or old w None

-- what the compositor's calls keep
pub record IsLive (r : Run) (waits : Option Input) (jobs : List (Option Job)) : Type 0 where
  pub told : IsTold r waits
  pub out : AreOut r jobs

-- the page after the main frames that were answered
abbrev pub IsMainPage : ScriptModel → List Entry → Page → Type 0
IsMainPage s h p = p ≡ page s (pulls_of h) (counted answers h)

-- the page of an open main frame is what some pulls and its commands make of the page before it, which takes them; the numbers of the commands fit
pub record IsEdited (p : Page) (frame : OpenModel) : Type 0 where
  pub pulls : List Move
  pub page : frame.page ≡ commanded frame.commands (page_after_pulls pulls p)
  pub takes : TakesAll (page_after_pulls pulls p) frame.commands
  pub ranges : list_all (command_in_range 2) frame.commands ≡ true
  pub few : length frame.commands < 4294967296

abbrev pub IsOpen : Page → Option OpenModel → Type 0
IsOpen p None = ⊤
IsOpen p (Some frame) = IsEdited p frame

-- what the main thread's calls keep
pub record IsMainSide (r : Run) (p : Page) (frame : Option OpenModel) : Type 0 where
  pub main : IsMainPage r.script (past r) p
  pub open_frame : IsOpen p frame
