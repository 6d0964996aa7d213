-- The lanes' bytes, side by side.
use Rattle.pixel.proofs.LaneWise.{byte_even, byte_odd}
use Rattle.pixel.proofs.lanes.bytes_of.Goals as goal

pub returns-clause-even : goal.returns-clause-even
returns-clause-even c = λ j lt. byte_even c.args.low c.args.high j c.requires.low c.requires.high lt

pub returns-clause-odd : goal.returns-clause-odd
returns-clause-odd c = λ j lt. byte_odd c.args.low c.args.high j c.requires.low c.requires.high lt
