-- The jobs of the ranks that are wanted first.
use Rattle.std.proofs.Common.{◌≡◌, ℕ, ◌<◌, true, List, map, take, length, get_or, subst}
use Rattle.std.specs.List.{AllByRecursion}
use Rattle.geom.specs.Covers.{IsSound}
use Rattle.geom.specs.KeyLists.{has_key}
use Rattle.tile_priority.specs.declared.rank.Rank.{Rank}
use Rattle.tile_priority.specs.Ranks.{rank_cmp}
use Rattle.tile_priority.specs.Ordered.{In, in_order}
use Rattle.tile_raster.specs.declared.job.Job.{Job}
use Rattle.tile_queue.specs.Queues.{rank_key}
use Rattle.tile_queue.proofs.Places.{in_at}
use Rattle.model_history.specs.declared.history.Entry.{Entry}
use Rattle.model_history.specs.Scripts.{ScriptModel}
use Rattle.model_history.specs.Tiles.{live_keys}
use Rattle.model_history.specs.Ranking.{wanted}
use Rattle.model_steps.specs.ShownKeys.{KeyShows}
use Rattle.impl_log.specs.Runs.{Run}
use Rattle.impl_core.proofs.WantedKeys.{upcoming_live}

-- they are of the keys of these ranks, their rects are sound, and they show the keys in the run
pub record AreJobsOf (r : Run) (ranks : List Rank) (jobs : List Job) : Type 0 where
  pub keys : map (λ (j : Job). j.key) jobs ≡ map rank_key ranks
  pub sound : AllByRecursion (λ (j : Job). IsSound j.rect) jobs
  pub shows : AllByRecursion (λ (j : Job). KeyShows r.script j.key j.rect j.list.value) jobs

-- a rank that is wanted first is of a live key
pub live_at : (s : ScriptModel) (h : List Entry) (most : ℕ) (ranks : List Rank) (i : ℕ) (d : Rank) → ranks ≡ take most (in_order rank_cmp (wanted s h)) → i < length ranks → has_key (live_keys s h) (get_or ranks i d).key ≡ true
live_at s h most ranks i d are lt = upcoming_live s h most (get_or ranks i d) (subst (In (get_or ranks i d)) are (in_at ranks i d lt))
