-- The tiles are those that the page shows, and each has its image.
use Rattle.std.proofs.Common.{◌≡◌, map, ◌∙◌, ap}
use Rattle.std.specs.Prelude.{find, Some}
use Rattle.page_properties.specs.OffsetMap.{offset_at}
use Rattle.page_layers.specs.Layers.{PageLayer, has_id, parts_of}
use Rattle.tile_visible.specs.declared.order.OrderedLayer.{OrderedLayer}
use Rattle.tile_visible.specs.Visible.{by_id}
use Rattle.viz_quads.proofs.Lists.{all_mapped}
use Rattle.cc.proofs.ShownImages.{all_found, shown_if, whole_if}
use Rattle.cc.proofs.making.shown_tiles.Goals as goal

pub tiles_in-requires-clause-found : goal.tiles_in-requires-clause-found
tiles_in-requires-clause-found c =
    let p = c.args.active.now in
    let in_order : map (λ (o : OrderedLayer). parts_of o.layer.now) c.as_slice.result.now ≡ by_id p.layers =
    ap (map (λ (o : OrderedLayer). parts_of o.layer.now)) c.as_slice.ensures.value ∙ c.in_ok-order.ensures.order ∙ ap by_id c.layers-layers.ensures in
    all_mapped (λ (l : PageLayer). find (has_id l.id) p.layers ≡ Some l) (λ (o : OrderedLayer). parts_of o.layer.now) c.as_slice.result.now (all_found p (map (λ (o : OrderedLayer). parts_of o.layer.now) c.as_slice.result.now) c.is_page.ensures.distinct in_order)

pub returns-clause-shown : goal.returns-clause-shown
returns-clause-shown c =
    let p = c.args.active.now in
    let in_order : map (λ (o : OrderedLayer). parts_of o.layer.now) c.as_slice.result.now ≡ by_id p.layers =
    ap (map (λ (o : OrderedLayer). parts_of o.layer.now)) c.as_slice.ensures.value ∙ c.in_ok-order.ensures.order ∙ ap by_id c.layers-layers.ensures in
    shown_if p (offset_at c.args.offsets.now) (map (λ (o : OrderedLayer). parts_of o.layer.now) c.as_slice.result.now) c.tiles_in.result in_order c.tiles_in.ensures.keys c.tiles_in.ensures.images

pub returns-clause-whole : goal.returns-clause-whole
returns-clause-whole c = whole_if c.args.active.now c.tiles_in.result c.tiles_in.ensures.images
