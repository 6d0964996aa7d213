-- As many are counted as are being made.
use Rattle.std.proofs.Common.{ap}
use Rattle.impl_log.specs.declared.progress.Progress.{Progress}
use Rattle.model_history.specs.Tiles.{in_flight}
use Rattle.impl_log.specs.Runs.{past}
use Rattle.recording_judge.proofs.DueEvents.{empty_told}
use Rattle.recording_judge.proofs.state.State.has_landed.Goals as goal

pub returns : goal.returns
returns c = empty_told c.progress.result.in_flight (in_flight (past c.args.self.now.log)) (ap (λ (p : Progress). p.in_flight) c.progress.ensures)
