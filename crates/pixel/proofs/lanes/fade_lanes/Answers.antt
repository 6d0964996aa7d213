-- Sixteen bytes of the row, each faded.
use Rattle.pixel.proofs.LaneWise.{loaded, faded_lanes}
use Rattle.pixel.proofs.lanes.fade_lanes.Goals as goal

pub faded-requires : goal.faded-requires
faded-requires c = loaded c.args.row.now c.args.at c.requires c.type_inv.row

pub returns : goal.returns
returns c = faded_lanes c.args.row.now c.faded.result c.args.at c.args.opacity c.requires c.faded.ensures.len c.faded.ensures.lanes
