-- The layer lies where it is placed.
use Rattle.std.proofs.Common.{◌==◌, ◌&&◌, List, Option, filter, refl, ap, ◌∙◌, rules}
use Rattle.geom.specs.declared.rect.Rect.{Rect}
use Rattle.geom.specs.declared.tile.TileKey.{TileKey}
use Rattle.geom.specs.Covers.{covers}
use Rattle.page_properties.specs.Trees.{Trees as Props}
use Rattle.page_properties.specs.OffsetMap.{offset_at}
use Rattle.page_properties.specs.Placement.{translation, clip_of}
use Rattle.page_layers.specs.Layers.{parts_of}
use Rattle.page_layers.specs.TreePainting.{lets_through}
use Rattle.page_layers.proofs.KeyRows.{same_places}
use Rattle.page_layers.proofs.Placing.{placed_colours}
use Rattle.page_layers.proofs.placed_layer.placed.Goals as goal

pub returns : goal.returns
returns c =
    let props = c.props-props.ensures in
    let offset = offset_at c.args.offsets.now in
    let layer = c.args.layer.now in
    let own : List TileKey = filter (λ k. k.layer == layer.id) c.args.missing.now in
    λ x y.
    same_places c.args.tree.now.view.tile _ own c.in_ok-own.ensures.same x y
    ∙ placed_colours c.args.tree.now offset c.args.missing.now (parts_of layer) _ c.moved_bounds.result
    c.moved_bounds.ensures.value
    (c.translation-by.ensures.value ∙ ap (λ (t : Props). translation offset t.transforms layer.transform) props)
    (λ x y. c.cut-area.ensures.points x y ∙ ap (λ (o : Option Rect). lets_through o x y && covers c.moved_bounds.result x y) (c.clip_of-clip.ensures.value ∙ ap (λ (t : Props). clip_of offset t.transforms t.clips layer.clip) props))
    refl (search rules) refl x y
