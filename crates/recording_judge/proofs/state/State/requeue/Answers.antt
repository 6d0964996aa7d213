-- Only the tiles have changed.
use Rattle.recording_judge.proofs.StateFacts.{on_ok}
use Rattle.recording_judge.proofs.state.State.requeue.Goals as goal

pub returns-clause-state : goal.returns-clause-state
returns-clause-state c = on_ok c.requeue_tiles.result (λ holds. record { host = c.requires.host; tiles = holds; main = c.requires.main }) c.requeue_tiles.ensures.keeps
