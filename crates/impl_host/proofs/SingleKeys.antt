-- The tile and the job of a single key.
use Rattle.std.proofs.Common.{◌≡◌, true, false, cond, List, Option, Some, None, is_some, option_map, refl, sym, ◌∙◌, ap, subst}
use Rattle.std.specs.Prelude.{IfSome}
use Rattle.geom.specs.declared.tile.TileKey.{TileKey}
use Rattle.geom.specs.KeyLists.{has_key}
use Rattle.tile_priority.specs.Tiles.{Tile}
use Rattle.tile_raster.specs.Images.{Image}
use Rattle.tile_raster.specs.declared.job.Job.{Job}
use Rattle.page_layers.specs.Pages.{Page}
use Rattle.model_history.specs.declared.history.Entry.{Entry}
use Rattle.model_history.specs.Scripts.{ScriptModel}
use Rattle.model_history.specs.Accepted.{IsPlayable}
use Rattle.model_history.specs.Frames.{pulls_of}
use Rattle.model_history.specs.Ranking.{ready_tile}
use Rattle.model_history.specs.Tiles.{live_keys}
use Rattle.model_steps.specs.ShownKeys.{KeyShows}
use Rattle.impl_host.specs.Jobs.{made_by, job_in}
use Rattle.impl_host.proofs.KeyedJobs.{job_shows}
use Rattle.impl_host.specs.inner.LivePages.{HasLivePage}

-- a live key has its tile, and another has none
pub live_tile : (s : ScriptModel) (h : List Entry) (q : TileKey) (t : Tile) → has_key (live_keys s h) q ≡ true → t ≡ ready_tile s h q → Some t ≡ cond (has_key (live_keys s h) q) (Some (ready_tile s h q)) None
live_tile s h q t live e = ap Some e ∙ ap (λ b. cond b (Some (ready_tile s h q)) None) (sym live)

pub dead_tile : (s : ScriptModel) (h : List Entry) (q : TileKey) → has_key (live_keys s h) q ≡ false → None ≡ cond (has_key (live_keys s h) q) (Some (ready_tile s h q)) None
dead_tile s h q dead = ap (λ b. cond b (Some (ready_tile s h q)) None) (sym dead)

some_job : (job : Option Job) (made : Image) → option_map made_by job ≡ Some made → is_some job ≡ true
some_job None made e = cc
some_job (Some j) made e = refl

-- the page that has a live key has its job
pub live_job : (s : ScriptModel) (h : List Entry) (q : TileKey) (p : Page) (job : Option Job) → IsPlayable s → HasLivePage s h q (Some p) → option_map made_by job ≡ job_in p q → is_some job ≡ has_key (live_keys s h) q
live_job s h q p job accepted had e =
    let (made, is, key, shows) = job_shows s (pulls_of h) had.1 q accepted had.3 in
    some_job job made (e ∙ ap (λ (z : Page). job_in z q) had.2 ∙ is) ∙ sym had.0

-- and what it makes shows the key
pub shown_job : (Live : ScriptModel → List Entry → Type 0) (q : TileKey) (p : Page) (job : Option Job) → ((s : ScriptModel) (h : List Entry) → Live s h → HasLivePage s h q (Some p)) → option_map made_by job ≡ job_in p q
    → IfSome job (λ j. (s : ScriptModel) (h : List Entry) → IsPlayable s → Live s h → (j.key ≡ q) × KeyShows s q j.rect j.list.value)
shown_job Live q p None had e = tt
shown_job Live q p (Some j) had e = λ s h accepted live.
    let there = had s h live in
    let (made, is, key, shows) = job_shows s (pulls_of h) there.1 q accepted there.3 in
    let same : made_by j ≡ made = some_same (e ∙ ap (λ (z : Page). job_in z q) there.2 ∙ is) in
    (ap (λ (i : Image). i.key) same ∙ key, subst (λ (i : Image). KeyShows s q i.rect i.list) (sym same) shows)
  where
    some_same : {x y : Image} → Some x ≡ Some y → x ≡ y
    some_same i = cc
