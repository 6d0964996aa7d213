-- It is the answer.
use Rattle.std.proofs.Common.{refl}
use Rattle.player_run.proofs.step.done_with.Goals as goal

pub returns : goal.returns
returns c = refl
