-- The least alphas are 255.
use Rattle.pixel.proofs.LaneTests.{opaque_block}
use Rattle.pixel.proofs.blocks.is_opaque.Goals as goal

pub returns : goal.returns
returns c = λ yes.
    opaque_block c.args.at c.args.row.now c.least.result c.requires.whole (λ i. (c.type_inv.row i).fits) c.least.ensures.lanes
    (c.are_opaque.ensures.0 yes)
