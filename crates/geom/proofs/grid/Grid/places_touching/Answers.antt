-- The block of the two runs is what the filter keeps.
use Rattle.geom.proofs.Blocks.{touching_block}
use Rattle.geom.proofs.grid.Grid.places_touching.Goals as goal

pub returns : goal.returns
returns c = rw (touching_block c.args.self c.args.area c.columns_touching-columns.result c.rows_touching-rows.result c.columns_touching-columns.ensures c.rows_touching-rows.ensures) c.block.ensures
