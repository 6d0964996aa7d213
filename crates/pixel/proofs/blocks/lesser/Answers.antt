-- Each lane is one of the two.
use Rattle.std.proofs.Common.{arith, ◌∙◌, sym}
use Rattle.pixel.proofs.LaneTests.{lesser_len, lesser_at}
use Rattle.pixel.proofs.blocks.lesser.Goals as goal

pub returns-clause-len : goal.returns-clause-len
returns-clause-len c = lesser_len c.args.a c.args.b (c.requires.a ∙ sym c.requires.b) ∙ c.requires.a

pub returns-clause-lanes : goal.returns-clause-lanes
returns-clause-lanes c = λ j lt. lesser_at c.args.a c.args.b j (omega (arith, c.requires.a)) (omega (arith, c.requires.b))
