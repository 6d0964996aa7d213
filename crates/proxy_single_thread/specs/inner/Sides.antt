-- What the main side, the workers and the drawing side keep of a run.
use Rattle.std.specs.Prelude.{◌≡◌, ℕ, suc, ◌+◌, ◌≤◌, ◌<◌, Bool, true, false, List, length, slice_index_or, Option, Some, None, is_some}
use Rattle.geom.specs.declared.tile.TileKey.{TileKey}
use Rattle.geom.specs.Covers.{IsSound}
use Rattle.tile_raster.specs.declared.job.Job.{Job}
use Rattle.model_states.specs.Kinds.{is_sent}
use Rattle.page_layers.specs.declared.moves.Move.{Move}
use Rattle.model_history.specs.Scripts.{ScriptModel}
use Rattle.model_history.specs.EventFields.{sends}
use Rattle.model_history.specs.Scans.{counted, held}
use Rattle.model_history.specs.Frames.{changes, pulls_of}
use Rattle.model_history.specs.Legal.{sched}
use Rattle.model_steps.specs.ShownKeys.{KeyShows}
use Rattle.impl_log.specs.Runs.{Run, past}
use Rattle.main_host.specs.Hosts.{HasRun}
use Rattle.main_host.specs.declared.main_end.MainEnd.{MainEnd}
use Rattle.main_host.specs.declared.main_end.MainEnd.TheVariants as end
use Rattle.proxy_single_thread.specs.Singles.{AreScenes}
use Rattle.proxy_single_thread.specs.declared.main_side.MainSide.{MainSide}
use Rattle.proxy_single_thread.specs.declared.workers.Workers.{Workers}
use Rattle.proxy_single_thread.specs.declared.unwritten_scenes.UnwrittenScenes.{UnwrittenScenes}
use Rattle.proxy_single_thread.specs.inner.Images.{ArePrepared}

-- ---- the main side

-- how frame k ends, with the pulls of the frames up to it: by its commit if it changes something, else by an abort
abbrev pub IsEndOf : ScriptModel → (ℕ → List Move) → ℕ → List (List Move) → MainEnd → Type 0
IsEndOf s ps k lists (end.Ready c) = (changes s ps k ≡ true) × (c.frame ≡ k) × (c.script ≡ s) × (c.sends ≡ lists)
IsEndOf s ps k lists (end.Abort frame) = (changes s ps k ≡ false) × (frame ≡ k)

-- no frame is in flight: all n that were sent were run, no end is kept, and it is known whether the last has changed something
pub record IsAtRest (s : ScriptModel) (ps : ℕ → List Move) (n : ℕ) (side : MainSide) : Type 0 where
  pub run : HasRun s ps n side.host
  pub none : side.end ≡ None
  pub changed : (k : ℕ) → n ≡ suc k → side.changed ≡ changes s ps k

-- frame k is in flight, and was not run
pub record IsBefore (s : ScriptModel) (ps : ℕ → List Move) (n : ℕ) (side : MainSide) : Type 0 where
  pub frame : ℕ
  pub last : n ≡ suc frame
  pub run : HasRun s ps frame side.host

-- frame k is in flight, was run, and ends so
pub record IsBehind (s : ScriptModel) (ps : ℕ → List Move) (n : ℕ) (side : MainSide) (e : MainEnd) : Type 0 where
  pub frame : ℕ
  pub last : n ≡ suc frame
  pub run : HasRun s ps n side.host
  pub ends : IsEndOf s ps frame side.host.sends e
  pub changed : side.changed ≡ changes s ps frame

abbrev pub IsInFlight : ScriptModel → (ℕ → List Move) → ℕ → MainSide → Option MainEnd → Type 0
IsInFlight s ps n side None = IsBefore s ps n side
IsInFlight s ps n side (Some e) = IsBehind s ps n side e

-- n frames were sent, and the last of them is in flight or not
abbrev pub IsMainOf : ScriptModel → (ℕ → List Move) → ℕ → MainSide → Bool → Type 0
IsMainOf s ps n side false = IsAtRest s ps n side
IsMainOf s ps n side true = IsInFlight s ps n side side.end

-- the main side of a run
abbrev pub IsMain : Run → MainSide → Type 0
IsMain r side = IsMainOf r.script (pulls_of (past r)) (counted sends (past r)) side (is_sent (sched (past r)).main_state)

-- if a frame is in flight, it was run
abbrev pub WasRun : Run → MainSide → Type 0
WasRun r side = is_sent (sched (past r)).main_state ≡ true → is_some side.end ≡ true

-- ---- the workers

-- it is of this key and shows it
pub record IsJobOf (s : ScriptModel) (q : TileKey) (job : Job) : Type 0 where
  pub key : job.key ≡ q
  pub shows : KeyShows s q job.rect job.list.value
  pub sound : IsSound job.rect

-- a worker that holds a key has its job, and one that holds none has none
abbrev pub HasJob : ScriptModel → Option TileKey → Option Job → Type 0
HasJob s None job = job ≡ None
HasJob s (Some q) None = ⊥
HasJob s (Some q) (Some job) = IsJobOf s q job

-- each worker of a run has the job of the key that it holds
pub record HaveJobs (r : Run) (jobs : List (Option Job)) : Type 0 where
  pub count : length jobs ≡ r.workers
  pub each : (w : ℕ) → w < r.workers → HasJob r.script (held w (past r)) (slice_index_or jobs w None)

-- and each image that was made ahead shows its key
abbrev pub AreWorkers : Run → Workers → Type 0
AreWorkers r ws = HaveJobs r ws.jobs.items × ArePrepared r.script ws.prepared.images.items

-- ---- what was drawn

-- the scenes are those of the draws among the entries after the written ones
pub record IsShown (r : Run) (shown : UnwrittenScenes) : Type 0 where
  pub fresh : ℕ
  pub count : length r.entries ≡ fresh + shown.written
  pub scenes : AreScenes r.script fresh (past r) shown.scenes.items

-- ---- all of it

-- they are the sides of a run that has 1 to 16 workers
pub record IsSingle (r : Run) (side : MainSide) (ws : Workers) (drawn : UnwrittenScenes) : Type 0 where
  pub few : (1 ≤ r.workers) × (r.workers ≤ 16)
  pub main : IsMain r side
  pub workers : AreWorkers r ws
  pub shown : IsShown r drawn
