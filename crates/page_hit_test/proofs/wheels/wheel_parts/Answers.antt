use Rattle.page_properties.specs.OffsetMap.{offset_at}
use Rattle.page_hit_test.proofs.Turns.{offsets_within}
use Rattle.page_hit_test.proofs.wheels.wheel_parts.Goals as goal

pub target-target-requires : goal.target-target-requires
target-target-requires c = offsets_within c.args.tree.now (offset_at c.args.offsets.now) c.requires.ranges
