use Rattle.std.proofs.Common.{◌≡◌, ◌++◌, map, take}
use Rattle.tile_queue.specs.Queues.{tile_key}
use Rattle.test_queue.proofs.queues.checks.add_ready.Given as goal

abbrev pub invariant-loop-tile : goal.invariant-loop-tile
invariant-loop-tile l = l.keys.items ≡ l.fn.keys.items ++ map tile_key (take l.tile-index l.ready)
