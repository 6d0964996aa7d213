-- What lies below an opaque pixel does not show.
use Rattle.pixel.proofs.LaneWise.{copied}
use Rattle.pixel.proofs.lanes.copy_lanes.Goals as goal

pub returns : goal.returns
returns c = copied c.args.dst.now c.args.src.now c.args.at c.requires.same c.requires.inside c.requires.opaque
