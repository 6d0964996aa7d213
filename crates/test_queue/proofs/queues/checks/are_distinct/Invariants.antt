-- Where the rest is distinct, all of them are.
use Rattle.std.proofs.Common.{length}
use Rattle.geom.specs.KeyLists.{AreDistinctKeys}
use Rattle.test_queue.proofs.queues.checks.are_distinct.Given as goal

abbrev pub invariant-loop-key : goal.invariant-loop-key
invariant-loop-key l = AreDistinctKeys l.rest → AreDistinctKeys l.keys

abbrev pub decreases-loop-key : goal.decreases-loop-key
decreases-loop-key l = length l.rest
