use Rattle.std.proofs.Common.{sym, subst}
use Rattle.geom.specs.Covers.{IsSound}
use Rattle.impl_ranks.proofs.layer.moved_back.Goals as goal

pub returns-clause-sound : goal.returns-clause-sound
returns-clause-sound c = subst IsSound (sym c.shifted_back.ensures) c.requires.result_sound
