-- An accepted script can be played.
use Rattle.std.proofs.Common.{subst}
use Rattle.model_history.specs.Scripts.{script_of}
use Rattle.model_history.specs.Accepted.{IsPlayable}
use Rattle.model_history.proofs.Ranged.{playable}
use Rattle.model_history.proofs.script.Script.is_accepted.Goals as goal

pub returns-clause-playable : goal.returns-clause-playable
returns-clause-playable c = subst IsPlayable c.self.view_is (playable (script_of c.self.inside.parts) c.self.invariant.0)
