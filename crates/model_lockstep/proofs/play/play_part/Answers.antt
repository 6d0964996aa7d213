-- A round of what waits, or what is left.
use Rattle.std.proofs.Common.{sym}
use Rattle.model_lockstep.proofs.Courses.{rest_can, round_can}
use Rattle.model_lockstep.proofs.play.play_part.Goals as goal

pub round-requires-clause-can : goal.round-requires-clause-can
round-requires-clause-can g c κs within = round_can c.args.input.now _ (sym c.if-is_held_up.ensures) c.requires

pub play_rest-requires-clause-can : goal.play_rest-requires-clause-can
play_rest-requires-clause-can g c κs within = rest_can c.args.input.now _ (sym c.if-is_held_up.ensures) c.requires
