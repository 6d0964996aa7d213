-- The key is above all before the one chunk, and below all from the other one on.
use Rattle.std.proofs.Common.{◌<◌, ◌≤◌, ◌-◌, length, take, drop}
use Rattle.impl_tiles.specs.inner.Chunked.{flat}
use Rattle.impl_tiles.specs.inner.TileTables.{Before, After}
use Rattle.impl_tiles.proofs.spots.chunk_for.Given as goal

abbrev pub invariant-loop-high : goal.invariant-loop-high
invariant-loop-high l = record {
  some : l.low < l.high;
  within : l.high ≤ length l.chunks;
  before : Before l.key (flat (take l.low l.chunks));
  after : After l.key (flat (drop l.high l.chunks));
}

abbrev pub decreases-loop-high : goal.decreases-loop-high
decreases-loop-high l = l.high - l.low
