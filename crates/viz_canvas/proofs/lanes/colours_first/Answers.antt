-- The first twelve lanes are those of the colours.
use Rattle.viz_canvas.proofs.Fours.{colours_first}
use Rattle.viz_canvas.proofs.lanes.colours_first.Goals as goal

pub returns-clause-colours : goal.returns-clause-colours
returns-clause-colours c = colours_first c.args.v c.requires
