-- The queue stays alike the choice.
use Rattle.test_queue.proofs.QueueSteps.{finish_stays}
use Rattle.test_queue.proofs.queues.checked_queue.finish.Goals as goal

pub returns-clause-ok : goal.returns-clause-ok
returns-clause-ok c = finish_stays _ _ _ _ _ c.requires c.finished-2.ensures c.in_ok-next.ensures
