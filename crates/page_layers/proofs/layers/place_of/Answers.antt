use Rattle.page_layers.proofs.LayerPlaces.{place_is}
use Rattle.page_layers.proofs.layers.place_of.Goals as goal

pub returns : goal.returns
returns c = place_is c.args.id c.args.layers.now c.first_place.result c.first_place.ensures
