-- The walk is that of the run which is given up.
use Rattle.test_histories.proofs.walk.walk_through.Goals as goal

pub stops_in-place-requires : goal.stops_in-place-requires
stops_in-place-requires c = c.requires

pub returns : goal.returns
returns c = c.stops_in-place.ensures
