-- The best of the ranks from here on.
use Rattle.std.proofs.Common.{◌≡◌, ◌≤◌, length, drop, filter}
use Rattle.tile_priority.specs.Choice.{may_start, least_of}
use Rattle.test_queue.proofs.choice.plain.PlainChoice.best_of.Given as goal

abbrev pub invariant-loop-left : goal.invariant-loop-left
invariant-loop-left l = record {
  within : l.left ≤ length l.ranks;
  best : l.best ≡ least_of (filter (may_start l.self) (drop l.left l.ranks));
}

abbrev pub decreases-loop-left : goal.decreases-loop-left
decreases-loop-left l = l.left
