-- What is needed is what the pending tree shows.
use Rattle.std.proofs.Common.{◌∙◌, ap}
use Rattle.model_history.specs.Tiles.{are_ready}
use Rattle.impl_log.specs.Runs.{past}
use Rattle.recording_judge.proofs.state.State.are_needed_ready.Goals as goal

pub returns : goal.returns
returns c = let r = c.args.self.now.log in c.are_ready.ensures r.script r.workers (past r) c.requires.tiles ∙ ap (are_ready r.script (past r)) c.in_ok-needed.ensures
