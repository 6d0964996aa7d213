-- The least of the four bytes of a column.
use Rattle.pixel.proofs.LaneTests.{least_of_four}
use Rattle.pixel.proofs.blocks.least.Goals as goal

pub returns-clause-lanes : goal.returns-clause-lanes
returns-clause-lanes c =
    least_of_four c.args.at c.args.row.now c.lesser-3.result c.lesser.result c.lesser-2.result c.lesser-3.ensures.lanes
    c.lesser.ensures.lanes c.lesser-2.ensures.lanes
