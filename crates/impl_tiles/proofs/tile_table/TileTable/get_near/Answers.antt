-- A key that is seen at the spot is held with the tile of its place.
use Rattle.std.proofs.Common.{◌≡◌, [], get_or, ap, sym, ◌∙◌, subst}
use Rattle.std.specs.FinMap as fin
use Rattle.slab.specs.Slab.{get}
use Rattle.impl_tiles.specs.inner.Chunked.{flat, index_of, HasKeyAt}
use Rattle.impl_tiles.proofs.Flats.{spot_is}
use Rattle.impl_tiles.proofs.TableSteps.{found_at, tile_at, gotten}
use Rattle.impl_tiles.proofs.tile_table.TileTable.get_near.Goals as goal

pub returns-in-Some : goal.returns-in-Some
returns-in-Some c =
    let tiles = c.self.inside.tiles in
    let cs = c.self.inside.held.chunks in
    let one = c.in-Some.one in
    let spot = c.spot_of.result in
    let has = subst (λ cs. HasKeyAt cs c.args.key spot) c.as_slice.ensures.chunks c.in-Some.ensures.stands in
    let read = subst (λ cs. one ≡ get_or (get_or cs spot.chunk []) spot.at one) c.as_slice.ensures.chunks c.in-Some.ensures.value in
    let place : one.place ≡ has.stands.one.place = ap (λ h. h.place) (spot_is cs spot has.spot has.stands.one has.stands.here one read) in
    gotten c.get.result (get tiles has.stands.one.place) c.args.key (c.get.ensures ∙ ap (get tiles) place) (tile_at tiles (flat cs) c.args.key (index_of cs spot) c.self.invariant has.stands)
    ∙ sym (found_at tiles (flat cs) c.args.key (index_of cs spot) has.stands c.self.invariant.rises)
    ∙ ap (λ s. fin.get s.held c.args.key) c.self.view_is
