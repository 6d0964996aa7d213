-- The layer at the first place with the id.
use Rattle.impl_host.proofs.Standing.{placed}
use Rattle.impl_host.proofs.places.place_of.Goals as goal

pub returns : goal.returns
returns c = placed c.args.id c.args.layers.now c.first_place.result c.first_place.ensures
