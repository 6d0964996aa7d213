-- No lane differs from 0.
use Rattle.pixel.proofs.LaneTests.{clear_of_mask}
use Rattle.pixel.proofs.lanes.are_clear.Goals as goal

pub returns : goal.returns
returns c = clear_of_mask c.args.v c.requires
