-- The law, from the lemmas of one axis.
use Rattle.geom.proofs.Covering.{covering, covering_none}
use Rattle.geom.proofs.grid.places_cover_once.Goals as goal

pub returns : goal.returns
returns c = record { inside = covering; outside = covering_none }
