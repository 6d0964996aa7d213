-- The places that a layer shows are in its grid.
use Rattle.std.proofs.Common.{true, ◌≡◌, ◌∙◌}
use Rattle.std.proofs.lemmas.List.Elements.{All-same}
use Rattle.geom.specs.Grids.{has}
use Rattle.page_properties.specs.OffsetMap.{offset_at}
use Rattle.page_layers.specs.Layers.{parts_of}
use Rattle.tile_visible.specs.Visible.{grid_of, visible_places}
use Rattle.viz_quads.proofs.PageTiles.{seen_there}
use Rattle.cc.proofs.making.tiles_in.Goals as goal

pub push_places-requires-clause-there : goal.push_places-requires-clause-there
push_places-requires-clause-there c =
    let p = c.args.pages.active.now in
    let l = parts_of c.one-item.result.layer.now in
    All-same (λ q. has (grid_of p l) q ≡ true) c.as_slice.result.now (visible_places p (offset_at c.args.offsets.now) l) (c.as_slice.ensures.value ∙ c.in_ok-places.ensures) (seen_there p (offset_at c.args.offsets.now) l)
