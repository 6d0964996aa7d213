-- The ranks of the places so far were added.
use Rattle.std.proofs.Common.{◌≡◌, ◌++◌, filter_map, take}
use Rattle.std.specs.Option.{option_and_then}
use Rattle.tile_priority.specs.declared.rank.Side.TheVariants as side
use Rattle.impl_ranks.specs.inner.Lists.{place_rank}
use Rattle.impl_ranks.specs.inner.Pairs.{alone_beside}
use Rattle.impl_ranks.proofs.pair.Pair.push_alone_at.Given as goal

abbrev pub invariant-loop-place : goal.invariant-loop-place
invariant-loop-place l = l.ranks.items ≡ l.fn.ranks.items ++ filter_map (λ p. option_and_then (alone_beside l.self.theirs l.self.other) (place_rank l.self.borders side.Pending l.self.layer p)) (take l.place-index l.places)
