-- A product of sixteen bits and nine fits thirty-two, and its upper half sixteen.
use Rattle.pixel.proofs.LaneWise.{cast_half, halves_fit}
use Rattle.pixel.proofs.lanes.upper_halves.Goals as goal

pub overflow_cast-result : goal.overflow_cast-result
overflow_cast-result c = halves_fit c.args.v c.fits-v.1 c.requires

pub returns-clause-lanes : goal.returns-clause-lanes
returns-clause-lanes c = λ j lt. cast_half c.args.v j c.fits-v.1 c.requires lt
