-- No chunks give the empty map.
use Rattle.std.proofs.Common.{ap, ◌∙◌}
use Rattle.impl_tiles.proofs.TableSteps.{held_map, from_nothing}
use Rattle.impl_tiles.proofs.tile_table.TileTable.new.Goals as goal

pub returns : goal.returns
returns c = ap (held_map c.new-2.result) c.new.ensures ∙ from_nothing
