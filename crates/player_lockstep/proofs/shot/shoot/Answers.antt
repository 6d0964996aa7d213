-- The script that was played is the shared one.
use Rattle.std.proofs.Common.{subst}
use Rattle.std.specs.Prelude.{IfOk, option_map}
use Rattle.model_history.specs.Scripts.{ScriptModel}
use Rattle.player_lockstep.specs.Shots.{IsShot}
use Rattle.player_lockstep.proofs.shot.shoot.Goals as goal

pub returns-in-Ok : goal.returns-in-Ok
returns-in-Ok g c = subst (λ (s : ScriptModel). IfOk c.shot_of.result (λ file. IsShot s (option_map (λ bytes. bytes.items) file))) c.deref.ensures c.shot_of.ensures
