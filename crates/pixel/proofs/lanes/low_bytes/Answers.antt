-- The lower byte of each lane.
use Rattle.pixel.proofs.LaneWise.{low_lane}
use Rattle.pixel.proofs.lanes.low_bytes.Goals as goal

pub returns-clause-lanes : goal.returns-clause-lanes
returns-clause-lanes c = λ j lt. low_lane c.args.v j c.requires lt
