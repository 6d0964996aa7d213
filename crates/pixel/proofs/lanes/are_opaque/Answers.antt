-- No lane is below that of opaque black.
use Rattle.pixel.proofs.LaneTests.{opaque_of_mask}
use Rattle.pixel.proofs.lanes.are_opaque.Goals as goal

pub returns : goal.returns
returns c = opaque_of_mask c.args.v c.requires
