-- The law, from the lemmas of one axis.
use Rattle.geom.proofs.Cuts.{part_the_layer}
use Rattle.geom.proofs.grid.places_part_the_layer.Goals as goal

pub returns : goal.returns
returns c = part_the_layer
