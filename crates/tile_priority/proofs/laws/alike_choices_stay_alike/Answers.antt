use Rattle.tile_priority.proofs.StayAlike.{alike_stay}
use Rattle.tile_priority.proofs.laws.alike_choices_stay_alike.Goals as goal

pub returns : goal.returns
returns c = alike_stay
