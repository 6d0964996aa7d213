-- Sixteen bytes of the row, four pixels.
use Rattle.pixel.proofs.LaneWise.{filled_lanes}
use Rattle.pixel.proofs.lanes.fill_lanes.Goals as goal

pub returns : goal.returns
returns c =
    filled_lanes c.args.colour c.args.row.now c.four_pixels.result c.args.at c.requires.inside c.requires.whole c.four_pixels.ensures.len
    c.four_pixels.ensures.lanes
