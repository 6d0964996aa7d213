use Rattle.std.proofs.Common.{sym}
use Rattle.page_layers.proofs.LayerPlaces.{there_is}
use Rattle.page_layers.proofs.layers.has_layer.Goals as goal

pub returns-in-Some : goal.returns-in-Some
returns-in-Some c = sym (there_is c.args.id c.in-Some.field-0 c.args.layers.now c.in-Some.ensures)
