-- A layer more is in its place.
use Rattle.std.proofs.Common.{◌+◌, length, ap, ◌∙◌}
use Rattle.std.proofs.lemmas.List.{length-append}
use Rattle.page_properties.specs.OffsetMap.{offset_at}
use Rattle.page_layers.specs.Layers.{parts_of}
use Rattle.page_layers.specs.TreePainting.{layer_colour_at}
use Rattle.page_layers.specs.Paintings.{placed_colour}
use Rattle.page_layers.proofs.MappedLists.{mapped_more}
use Rattle.page_layers.proofs.tree_paint.placed_layers.Goals as goal

pub loop-layer-preserved : goal.loop-layer-preserved
loop-layer-preserved c =
    let tree = c.args.tree.now in
    let pushed = c.in_ok-push.ensures.items in
    record {
      colours = λ x y.
          mapped_more (placed_colour tree.view.tile x y) (λ k. layer_colour_at tree (offset_at c.args.offsets.now) c.args.missing.now x y (parts_of k))
          c.loop-layer.ready.items c.push.new.self.items c.in_ok-placed.field-0 c.args.layers.now c.loop-layer.layer-index c.layer-item.result
          pushed c.loop-layer-test.true c.layer-item.is (c.in_ok-placed.ensures x y) (c.loop-layer.invariant.colours x y);
      count = ap length pushed ∙ length-append c.loop-layer.ready.items _ ∙ ap (λ n. n + 1) c.loop-layer.invariant.count;
    }
