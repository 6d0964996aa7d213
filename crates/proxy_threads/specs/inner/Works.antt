-- What a worker does in one holding of the turn, and between two.
use Rattle.std.specs.Prelude.{◌≡◌, ◌⊎◌, ◌+◌, ◌<◌, ℕ, true, false, Some, None}
use Rattle.geom.specs.declared.tile.TileKey.{TileKey}
use Rattle.geom.specs.Covers.{IsSound}
use Rattle.tile_raster.specs.Images.{Image}
use Rattle.tile_raster.specs.declared.job.Job.{Job}
use Rattle.model_states.specs.declared.kind.Kind.TheVariants as kind
use Rattle.model_history.specs.declared.event.Event.TheVariants as event
use Rattle.model_history.specs.Scans.{has_ended, held}
use Rattle.model_steps.specs.ShownKeys.{KeyShows}
use Rattle.impl_log.specs.Runs.{Run, past, now, with_entry}
use Rattle.impl_core.specs.Replies.{StartsKey}
use Rattle.proxy_threads.specs.declared.turned.Turned.{Turned}
use Rattle.proxy_threads.specs.declared.turned.Turned.TheVariants as turned
use Rattle.proxy_threads.specs.declared.raster_actor.Started.{Started}
use Rattle.proxy_threads.specs.declared.raster_actor.Started.TheVariants as started
use Rattle.proxy_threads.specs.Seats.{Seat, HasSeenRun, past_of}
use Rattle.proxy_threads.specs.WorkTurns.{WorkTurn}
use Rattle.proxy_threads.specs.inner.Steps.{Stops}

-- the run has ended; or no tile may start; or one was started, of this job; or memory was refused
abbrev pub StartsOne : ℕ → Started → Run → Run → Type 0
StartsOne w started.Ended old new = (new ≡ old) × (has_ended (past old) ≡ true)
StartsOne w started.Waits old new = (new ≡ old) × (has_ended (past old) ≡ false) × (now old kind.Start (2 + w) ≡ None)
StartsOne w (started.Making job) old new = StartsKey old w job.key new × IsSound job.rect × KeyShows old.script job.key job.rect job.list.value
StartsOne w started.Memory old new = new ≡ old

-- in a run that goes on, the worker holds nothing
abbrev pub IsFree : ℕ → Run → Type 0
IsFree w r = has_ended (past r) ≡ false → held w (past r) ≡ None

-- the worker holds this key, which the rect and the list show
pub record Holds (w : ℕ) (p : Seat) (image : Image) : Type 0 where
  pub run : Run
  pub stands : HasSeenRun p run
  pub actor : p.actor ≡ 2 + w
  pub within : w < run.workers
  pub held : held w (past run) ≡ Some image.key
  pub shows : KeyShows run.script image.key image.rect image.list

-- the same before the image is made
pub record HoldsJob (w : ℕ) (p : Seat) (job : Job) : Type 0 where
  pub run : Run
  pub stands : HasSeenRun p run
  pub actor : p.actor ≡ 2 + w
  pub within : w < run.workers
  pub held : held w (past run) ≡ Some job.key
  pub shows : KeyShows run.script job.key job.rect job.list.value
  pub sound : IsSound job.rect

-- in a run that goes on, the worker holds the key of the image, which shows it
pub record CanBeDone (w : ℕ) (image : Image) (r : Run) : Type 0 where
  pub held : has_ended (past r) ≡ false → held w (past r) ≡ Some image.key
  pub shows : KeyShows r.script image.key image.rect image.list

-- the worker was done with the tile, or the run had ended
abbrev pub IsDone : ℕ → TileKey → Turned → Run → Run → Type 0
IsDone w key turned.Went old new = (has_ended (past old) ≡ false) × (new ≡ with_entry old (2 + w) (event.DoneTile w key))
IsDone w key turned.Ended old new = (has_ended (past old) ≡ true) × (new ≡ old)
IsDone w key _ old new = ⊥

-- the same, or the worker gave up
abbrev pub Finishes : ℕ → TileKey → ℕ → Turned → Run → Run → Type 0
Finishes w key a turned.Memory old new = Stops a old new
Finishes w key a t old new = IsDone w key t old new

-- a turn of a worker, which is then free, unless the run has ended
pub record WorkTurns (w : ℕ) (p q : Seat) (t : Turned) : Type 0 where
  pub turn : WorkTurn p q t
  pub free : (has_ended (past_of q.seen) ≡ true) ⊎ (held w (past_of q.mine) ≡ None)
