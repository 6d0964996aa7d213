-- The layer as it is seen is the one with the stamps.
use Rattle.std.proofs.Common.{ap, ◌∙◌}
use Rattle.page_properties.specs.OffsetMap.{offset_at}
use Rattle.page_layers.specs.Layers.{parts_of}
use Rattle.impl_ranks.specs.SeenTrees.{SeenLayerModel}
use Rattle.impl_ranks.specs.inner.Lists.{layer_rank}
use Rattle.impl_ranks.proofs.StampedLayers.{seen_is}
use Rattle.impl_ranks.proofs.placed.rank_of.Goals as goal

pub returns : goal.returns
returns c =
    c.rank_on.ensures
    ∙ ap (λ (v : SeenLayerModel). layer_rank c.args.borders.now c.args.side v c.args.key)
    (seen_is c.args.page.now (offset_at c.args.offsets.now) (parts_of c.args.layer.now) c.args.tiling.now c.new-seen.result c.new-seen.ensures.seen c.new-seen.ensures.stamps)
