-- The queue stays alike the choice.
use Rattle.test_queue.proofs.QueueSteps.{start_stays}
use Rattle.test_queue.proofs.queues.checked_queue.start.Goals as goal

pub returns-clause-ok : goal.returns-clause-ok
returns-clause-ok c = start_stays _ _ _ _ _ _ c.requires c.started-2.ensures c.in_ok-next.ensures
