-- Sixteen bytes of both rows, and their sums.
use Rattle.std.proofs.Common.{arith}
use Rattle.pixel.proofs.LaneWise.{loaded, laid}
use Rattle.pixel.proofs.lanes.over_lanes.Goals as goal

pub shown-requires-clause-dst : goal.shown-requires-clause-dst
shown-requires-clause-dst c = loaded c.args.dst.now c.args.at (omega arith) c.type_inv.dst

pub shown-requires-clause-src : goal.shown-requires-clause-src
shown-requires-clause-src c = loaded c.args.src.now c.args.at c.requires.inside c.type_inv.src

pub returns : goal.returns
returns c =
    laid c.args.dst.now c.args.src.now c.shown.result c.args.at c.requires.same c.requires.inside c.requires.whole c.requires.premultiplied
    c.type_inv.src c.shown.ensures.len c.shown.ensures.lanes c.shown.ensures.low
