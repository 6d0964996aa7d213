use Rattle.std.specs.List.{All}
use Rattle.thread_lock.specs.PassModels.{IsOf}
use Rattle.test_channels.proofs.locks.split_all.Given as goal

abbrev pub invariant-loop : goal.invariant-loop
invariant-loop g l = IsOf l.lock l.first × All (IsOf l.lock) l.passes.items
