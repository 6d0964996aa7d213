-- The upper byte of each lane.
use Rattle.pixel.proofs.LaneWise.{high_lane}
use Rattle.pixel.proofs.lanes.high_bytes.Goals as goal

pub returns-clause-lanes : goal.returns-clause-lanes
returns-clause-lanes c = λ j lt. high_lane c.args.v j c.requires lt
