-- The best of the missing ones so far.
use Rattle.std.proofs.Common.{◌≡◌, take, filter}
use Rattle.tile_priority.specs.Choice.{least_of}
use Rattle.impl_tiles.specs.Choices.{store_lacks}
use Rattle.impl_tiles.proofs.ranks.best_missing.Given as goal

abbrev pub invariant-loop-rank : goal.invariant-loop-rank
invariant-loop-rank l = l.best ≡ least_of (filter (λ r. store_lacks l.store r.key) (take l.rank-index l.ranks))
