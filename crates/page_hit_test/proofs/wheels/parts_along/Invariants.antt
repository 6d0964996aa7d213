-- The parts so far, and those of the rest of the chain, are all; what is left can still be asked.
use Rattle.std.proofs.Common.{◌≡◌, ◌++◌, map, drop}
use Rattle.page_properties.specs.OffsetMap.{offset_at}
use Rattle.page_layers.specs.Axes.{across, down}
use Rattle.page_layers.specs.Wheels.{chain_parts, chain_rest, takes_at}
use Rattle.page_hit_test.specs.Wheels.{part_move, IsAmount}
use Rattle.page_hit_test.proofs.wheels.parts_along.Given as goal

abbrev pub invariant-loop-scroller : goal.invariant-loop-scroller
invariant-loop-scroller l = record {
  parts : map part_move l.parts ++ chain_parts (takes_at l.tree (offset_at l.offsets)) (drop l.scroller-index l.chain) l.left_x l.left_y ≡ chain_parts (takes_at l.tree (offset_at l.offsets)) l.chain l.asked_x l.asked_y;
  rest_x : chain_rest (takes_at l.tree (offset_at l.offsets)) across (drop l.scroller-index l.chain) l.left_x ≡ chain_rest (takes_at l.tree (offset_at l.offsets)) across l.chain l.asked_x;
  rest_y : chain_rest (takes_at l.tree (offset_at l.offsets)) down (drop l.scroller-index l.chain) l.left_y ≡ chain_rest (takes_at l.tree (offset_at l.offsets)) down l.chain l.asked_y;
  across : IsAmount l.left_x;
  down : IsAmount l.left_y;
}
