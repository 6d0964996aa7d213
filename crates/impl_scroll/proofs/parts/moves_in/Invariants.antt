-- The parts so far.
use Rattle.std.proofs.Common.{◌≡◌, map, take}
use Rattle.page_hit_test.specs.Wheels.{part_move}
use Rattle.impl_scroll.proofs.parts.moves_in.Given as goal

abbrev pub invariant-loop-part : goal.invariant-loop-part
invariant-loop-part l = l.moves ≡ map part_move (take l.part-index l.parts)
