-- The worker holds the tile, and the manager takes it.
use Rattle.std.proofs.Common.{◌≡◌, ℕ, ◌+◌, ◌<◌, false, ◌∷◌, Some, refl, sym, ◌∙◌, ap, subst, arith}
use Rattle.geom.specs.declared.tile.TileKey.{TileKey}
use Rattle.tile_raster.specs.Images.{Image}
use Rattle.model_history.specs.declared.event.Event.TheVariants as event
use Rattle.model_history.specs.Scans.{has_ended, held}
use Rattle.model_history.specs.Legal.{Legal}
use Rattle.model_history.proofs.TileCourse.{holder_is_worker}
use Rattle.model_steps.specs.Events.{done}
use Rattle.model_steps.specs.ShownKeys.{KeyShows}
use Rattle.impl_tiles.specs.Managers.{Manages, tile_made}
use Rattle.impl_log.specs.Runs.{Run, past, with_entry}
use Rattle.impl_core.specs.declared.drawn.Drawn.TheVariants as drawn
use Rattle.impl_core.proofs.CoreSteps.{done_core, one_more}
use Rattle.impl_core.proofs.MayCome.{done_now, comes_next}
use Rattle.impl_core.proofs.core_state.Core.done_tile.Goals as goal

pub overflow_add-actor : goal.overflow_add-actor
overflow_add-actor c =
    let r : Run = c.self.inside.log in
    let holds = subst (λ (z : Run). held c.args.worker (past z) ≡ Some c.args.image.value.key) (sym c.self.view_is) c.requires.holds in
    let within : c.args.worker < r.workers = holder_is_worker r.script r.workers (past r) c.is_legal.ensures.legal c.args.worker c.args.image.value.key holds in
    omega (arith, within, c.is_legal.ensures.few)

pub enter_kept-requires-clause-within : goal.enter_kept-requires-clause-within
enter_kept-requires-clause-within c =
    let r : Run = c.self.inside.log in
    let holds = subst (λ (z : Run). held c.args.worker (past z) ≡ Some c.args.image.value.key) (sym c.self.view_is) c.requires.holds in
    let within : c.args.worker < r.workers = holder_is_worker r.script r.workers (past r) c.is_legal.ensures.legal c.args.worker c.args.image.value.key holds in
    omega (arith, within)

pub done-requires : goal.done-requires
done-requires c =
    let r : Run = c.self.inside.log in
    let w : ℕ = c.args.worker in
    let q : TileKey = c.args.image.value.key in
    let holds : held w (past r) ≡ Some q = subst (λ (z : Run). held w (past z) ≡ Some q) (sym c.self.view_is) c.requires.holds in
    let going = subst (λ (z : Run). has_ended (past z) ≡ false) (sym c.self.view_is) c.requires.going in
    let within : w < r.workers = holder_is_worker r.script r.workers (past r) c.is_legal.ensures.legal w q holds in
    record {
      script = r.script;
      workers = r.workers;
      past = past r;
      actor = 2 + w;
      worker = w;
      manages = c.self.invariant.tiles;
      legal = comes_next r.script r.workers (past r) (2 + w) (event.DoneTile w q) c.is_legal.ensures.legal (done_now r.script (past r) going w q holds) refl (omega (arith, within));
      is_tile = subst (λ (z : Run). c.args.tile ≡ tile_made z.script (past z) q) (sym c.self.view_is) c.requires.tile;
    }

pub invariant_of-self : goal.invariant_of-self
invariant_of-self c =
    let r : Run = c.self.inside.log in
    let w : ℕ = c.args.worker in
    let q : TileKey = c.args.image.value.key in
    let holds : held w (past r) ≡ Some q = subst (λ (z : Run). held w (past z) ≡ Some q) (sym c.self.view_is) c.requires.holds in
    let going = subst (λ (z : Run). has_ended (past z) ≡ false) (sym c.self.view_is) c.requires.going in
    let within : w < r.workers = holder_is_worker r.script r.workers (past r) c.is_legal.ensures.legal w q holds in
    let legal : Legal r.script r.workers (done (2 + w) w q ∷ past r) =
    comes_next r.script r.workers (past r) (2 + w) (event.DoneTile w q) c.is_legal.ensures.legal (done_now r.script (past r) going w q holds) refl (omega (arith, within)) in
    let is_tile = subst (λ (z : Run). c.args.tile ≡ tile_made z.script (past z) q) (sym c.self.view_is) c.requires.tile in
    let shows = subst (λ (z : Run). KeyShows z.script q c.args.image.value.rect c.args.image.value.list) (sym c.self.view_is) c.requires.shows in
    let made : Manages r.script (done (2 + w) w q ∷ past r) c.done.new.self = c.done.ensures.tiles r.script r.workers (past r) (2 + w) w c.self.invariant.tiles legal is_tile shows in
    let same : c.key-key.result ≡ q = c.key-key.ensures ∙ ap (λ (i : Image). i.key) c.deref.ensures in
    let entered : c.enter_kept.new.self ≡ with_entry r (2 + w) (event.DoneTile w q) = subst (λ (k : TileKey). c.enter_kept.new.self ≡ with_entry r (2 + w) (event.DoneTile w k)) same c.enter_kept.ensures in
    one_more (record { host = c.self.inside.host; tiles = c.done.new.self; told = c.self.inside.told; prepared = c.self.inside.prepared; required = c.self.inside.required; drawn = drawn.Nothing }) r c.enter_kept.new.self (2 + w) (event.DoneTile w q) entered
    (done_core r.script (past r) (2 + w) w q (record { host = c.self.inside.host; tiles = c.self.inside.tiles; told = c.self.inside.told; prepared = c.self.inside.prepared; required = c.self.inside.required; drawn = c.self.inside.drawn }) c.done.new.self c.self.invariant made)
