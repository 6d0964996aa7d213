-- The greatest bytes are 0.
use Rattle.pixel.proofs.LaneTests.{clear_block}
use Rattle.pixel.proofs.blocks.is_clear.Goals as goal

pub returns : goal.returns
returns c = λ yes. clear_block c.args.at c.args.row.now c.greatest.result c.greatest.ensures.lanes (c.are_clear.ensures.0 yes)
