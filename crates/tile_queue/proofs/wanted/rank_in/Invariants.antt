-- None of the ranks so far is of the key.
use Rattle.std.proofs.Common.{◌≡◌, take}
use Rattle.tile_priority.specs.declared.rank.Rank.{Rank}
use Rattle.tile_priority.specs.Ordered.{In}
use Rattle.tile_queue.proofs.wanted.rank_in.Given as goal

abbrev pub invariant-loop-rank : goal.invariant-loop-rank
invariant-loop-rank l = (r : Rank) → In r (take l.rank-index l.ranks) → r.key ≡ l.key → ⊥
