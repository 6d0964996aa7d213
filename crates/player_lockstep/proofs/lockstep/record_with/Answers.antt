-- What was recorded of a run is what was written.
use Rattle.player_lockstep.proofs.RecordedRuns.{run_told}
use Rattle.player_lockstep.proofs.lockstep.record_with.Goals as goal

pub returns : goal.returns
returns g c = run_told g.K.Sink c.args.script.now _ _ _ c.record_whole-written.result c.end_with.result c.end_with.ensures c.record_whole-written.ensures
