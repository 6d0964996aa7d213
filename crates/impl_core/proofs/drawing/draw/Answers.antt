-- The tiles are right for the active page, and those without an image are the missing ones.
use Rattle.std.proofs.Common.{◌≡◌, map, ◌∙◌, ap}
use Rattle.page_properties.specs.OffsetMap.{offset_at}
use Rattle.page_layers.specs.TreePainting.{paint}
use Rattle.viz_quads.specs.ShownTiles.{tile_of, missing_keys}
use Rattle.model_history.specs.Tiles.{missing_visible}
use Rattle.impl_core.specs.Drawings.{held_tile}
use Rattle.impl_core.proofs.HeldTiles.{missing_among, right_for}
use Rattle.impl_core.proofs.drawing.draw.Goals as goal

pub quads_of-requires-clause-right : goal.quads_of-requires-clause-right
quads_of-requires-clause-right c =
    let r = c.requires.now in
    let store = c.args.manager.now.store in
    let tiles = ap (map tile_of) c.as_slice-3.ensures.value ∙ (c.in_ok-tiles.ensures ∙ ap (map (held_tile store)) c.as_slice.ensures) in
    right_for r.script r.past c.args.manager.now r.manages c.args.page.now (offset_at c.args.offsets.now) c.args.keys.now (map tile_of c.as_slice-3.result.now) r.page r.offsets r.keys tiles

pub returns-clause-missing : goal.returns-clause-missing
returns-clause-missing c = λ s h holds keys.
    let store = c.args.manager.now.store in
    let tiles = ap (map tile_of) c.as_slice-2.ensures.value ∙ (c.in_ok-tiles.ensures ∙ ap (map (held_tile store)) c.as_slice.ensures) in
    c.in_ok-missing.ensures ∙ missing_among s h c.args.manager.now holds c.args.keys.now (map tile_of c.as_slice-2.result.now) keys tiles

pub returns-clause-pixels : goal.returns-clause-pixels
returns-clause-pixels c = λ s h holds page offsets keys x y inside.
    let store = c.args.manager.now.store in
    let tiles = ap (map tile_of) c.as_slice-3.ensures.value ∙ (c.in_ok-tiles.ensures ∙ ap (map (held_tile store)) c.as_slice.ensures) in
    let gone : missing_keys (map tile_of c.as_slice-3.result.now) ≡ missing_visible s h = missing_among s h c.args.manager.now holds c.args.keys.now (map tile_of c.as_slice-3.result.now) keys tiles in
    c.in_ok-scene.ensures.pixels x y inside ∙ (λ i. paint (page i) (offsets i) (gone i) c.args.background x y)
