-- The key is found where the chunks have it.
use Rattle.std.proofs.Common.{◌≡◌, ap, sym, ◌∙◌, subst}
use Rattle.std.specs.FinMap as fin
use Rattle.slab.specs.Slab.{get}
use Rattle.impl_tiles.specs.inner.Chunked.{flat, index_of, HasKeyAt, HasGapAt}
use Rattle.impl_tiles.proofs.Flats.{spot_is}
use Rattle.impl_tiles.proofs.TableSteps.{found_at, not_found, tile_at, gotten}
use Rattle.impl_tiles.proofs.tile_table.TileTable.get_away.Goals as goal

pub at-requires : goal.at-requires
at-requires c = (subst (λ cs. HasKeyAt cs c.args.key c.in-Ok.spot) c.as_slice.ensures.chunks c.in-Ok.ensures.found).spot

pub returns-in-Ok : goal.returns-in-Ok
returns-in-Ok c =
    let tiles = c.self.inside.tiles in
    let cs = c.self.inside.held.chunks in
    let held = flat cs in
    let has = subst (λ cs. HasKeyAt cs c.args.key c.in-Ok.spot) c.as_slice.ensures.chunks c.in-Ok.ensures.found in
    let at = index_of cs c.in-Ok.spot in
    let place : c.at.result.place ≡ has.stands.one.place = ap (λ h. h.place) (spot_is cs c.in-Ok.spot has.spot has.stands.one has.stands.here c.at.result c.at.ensures) in
    gotten c.get.result (get tiles has.stands.one.place) c.args.key (c.get.ensures ∙ ap (get tiles) place) (tile_at tiles held c.args.key at c.self.invariant has.stands)
    ∙ sym (found_at tiles held c.args.key at has.stands c.self.invariant.rises)
    ∙ ap (λ s. fin.get s.held c.args.key) c.self.view_is

pub returns-in-Err : goal.returns-in-Err
returns-in-Err c =
    let cs = c.self.inside.held.chunks in
    let gap = subst (λ cs. HasGapAt cs c.args.key c.in-Err.spot) c.as_slice.ensures.chunks c.in-Err.ensures.absent in
    sym (not_found c.self.inside.tiles (flat cs) c.args.key (index_of cs c.in-Err.spot) gap.goes c.self.invariant.rises)
    ∙ ap (λ s. fin.get s.held c.args.key) c.self.view_is
