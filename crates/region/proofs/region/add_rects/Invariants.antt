use Rattle.std.proofs.Common.{take}
use Rattle.region.proofs.Covering.{HasGrown}
use Rattle.region.proofs.region.add_rects.Given as goal

abbrev pub invariant-loop-r : goal.invariant-loop-r
invariant-loop-r l = HasGrown l.fn.rects.items l.rects.items (take l.r-index l.others)
