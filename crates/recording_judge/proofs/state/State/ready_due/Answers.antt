-- The main side tells how its frame ends.
use Rattle.impl_log.specs.Runs.{past}
use Rattle.recording_judge.proofs.state.State.ready_due.Goals as goal

pub returns : goal.returns
returns c = let r = c.args.self.now.log in c.ready.ensures r.script r.workers (past r) c.is_legal.ensures.legal c.requires.state.main c.requires.is_open
