-- What is left to be moved makes of the page what the parts make of the first one.
use Rattle.std.proofs.Common.{◌≡◌, map, length}
use Rattle.page_hit_test.specs.Wheels.{part_move}
use Rattle.page_layers.specs.Effects.{page_after_pulls}
use Rattle.cc.proofs.moves.move_parts.Given as goal

abbrev pub invariant-loop-part : goal.invariant-loop-part
invariant-loop-part l = page_after_pulls (map part_move l.rest) l.page ≡ page_after_pulls (map part_move l.parts) l.fn.page

abbrev pub decreases-loop-part : goal.decreases-loop-part
decreases-loop-part l = length l.rest
