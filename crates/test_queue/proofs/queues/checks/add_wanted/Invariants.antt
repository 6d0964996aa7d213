use Rattle.std.proofs.Common.{◌≡◌, ◌++◌, map, take}
use Rattle.tile_queue.specs.Queues.{rank_key}
use Rattle.test_queue.proofs.queues.checks.add_wanted.Given as goal

abbrev pub invariant-loop-rank : goal.invariant-loop-rank
invariant-loop-rank l = l.keys.items ≡ l.fn.keys.items ++ map rank_key (take l.rank-index l.wanted)
