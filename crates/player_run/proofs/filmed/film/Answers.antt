-- What was written are the images of the script's run, or a prefix of them.
use Rattle.player_lockstep.specs.Films.{IsLockstepFilm}
use Rattle.player_uses.proofs.Outputs.{fault_cause, fault_some}
use Rattle.player_run.proofs.filmed.film.Goals as goal

pub returns-in-Err-clause-films : goal.returns-in-Err-clause-films
returns-in-Err-clause-films g c =
    let front = c.in-Err.ensures.bytes in
    fault_some (IsLockstepFilm c.args.script.value) _ _ front.0 c.in-Err.fault _ c.from.ensures front.1 front.2

pub returns-in-Err-clause-cause : goal.returns-in-Err-clause-cause
returns-in-Err-clause-cause g c = fault_cause (Unit {0}) _ _ c.in-Err.fault _ c.from.ensures c.in-Err.ensures.cause
