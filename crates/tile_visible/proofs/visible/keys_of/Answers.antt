-- The keys of one layer more are added.
use Rattle.std.proofs.Common.{◌++◌, List, map, ap, ◌∙◌}
use Rattle.geom.specs.declared.tile.Place.{Place}
use Rattle.page_properties.specs.OffsetMap.{offset_at}
use Rattle.page_layers.specs.Layers.{PageLayer, parts_of}
use Rattle.tile_visible.specs.declared.order.OrderedLayer.{OrderedLayer}
use Rattle.tile_visible.specs.Visible.{key_at, visible_places}
use Rattle.tile_visible.proofs.LayerOrder.{given_more}
use Rattle.tile_visible.proofs.visible.keys_of.Goals as goal

pub loop-one-preserved : goal.loop-one-preserved
loop-one-preserved c =
    let tree = c.args.tree.now in
    let stamp = c.args.stamp in
    given_more (λ (k : PageLayer). map (key_at (λ _ _. stamp) k.id) (visible_places tree (offset_at c.args.offsets.now) k)) (λ (o : OrderedLayer). parts_of o.layer.now) c.args.layers.now c.loop-one.one-index c.one-item.result
    c.loop-one.keys c.push_keys.new.keys c.loop-one-test.true c.one-item.is c.loop-one.invariant
    (c.in_ok-push_keys.ensures ∙ ap (λ (ps : List Place). c.loop-one.keys ++ map (key_at (λ _ _. stamp) c.one-item.result.layer.now.id) ps) (c.as_slice.ensures.value ∙ c.in_ok-places.ensures))
