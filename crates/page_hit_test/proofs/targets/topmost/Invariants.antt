-- The layers that were not looked at answer as all do, and are as large as layers are; what was found of nodes is kept.
use Rattle.std.proofs.Common.{◌≡◌, map, length}
use Rattle.std.specs.List.{All}
use Rattle.geom.specs.Sides.{IsLayerSide}
use Rattle.page_properties.specs.OffsetMap.{offset_at}
use Rattle.page_properties.specs.Placement.{translation, draws}
use Rattle.page_layers.specs.Layers.{parts_of}
use Rattle.page_layers.specs.Hits.{last_covering, covers_point}
use Rattle.page_layers.specs.declared.layer.Layer.{Layer}
use Rattle.page_properties.specs.inner.Tables.{IsTable}
use Rattle.page_hit_test.specs.inner.Found.{is_open_at}
use Rattle.page_hit_test.proofs.targets.topmost.Given as goal

abbrev pub invariant-loop-layer : goal.invariant-loop-layer
invariant-loop-layer l = record {
  same : last_covering (covers_point l.tree (offset_at l.offsets) l.p.x l.p.y) (map parts_of l.rest) ≡ last_covering (covers_point l.tree (offset_at l.offsets) l.p.x l.p.y) (map parts_of l.layers);
  sizes : All (λ (w : Layer). IsLayerSide w.w × IsLayerSide w.h) l.rest;
  places : IsTable (translation (offset_at l.offsets) l.tree.props.transforms) l.places;
  clips : IsTable (is_open_at (offset_at l.offsets) l.tree.props l.p) l.clips;
  effects : IsTable (draws l.tree.props.effects) l.effects;
}

abbrev pub decreases-loop-layer : goal.decreases-loop-layer
decreases-loop-layer l = length l.rest
