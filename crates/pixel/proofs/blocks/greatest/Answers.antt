-- The greatest of the four bytes of a column.
use Rattle.pixel.proofs.LaneTests.{greatest_of_four}
use Rattle.pixel.proofs.blocks.greatest.Goals as goal

pub returns-clause-lanes : goal.returns-clause-lanes
returns-clause-lanes c =
    greatest_of_four c.args.at c.args.row.now c.greater-3.result c.greater.result c.greater-2.result c.greater-3.ensures.lanes
    c.greater.ensures.lanes c.greater-2.ensures.lanes
