-- A round that is left, or the end.
use Rattle.std.proofs.Common.{refl, sym}
use Rattle.model_lockstep.proofs.Courses.{end_rest_can, end_round_can}
use Rattle.model_lockstep.proofs.play.end_part.Goals as goal

pub round-requires-clause-can : goal.round-requires-clause-can
round-requires-clause-can g c κs within = end_round_can _ (sym c.if-goes_on.ensures) c.requires

pub enter-requires : goal.enter-requires
enter-requires g c = record { actor = refl; can = end_rest_can _ (sym c.if-goes_on.ensures) c.requires }
