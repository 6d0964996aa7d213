-- The ranks so far were parted.
use Rattle.std.proofs.Common.{◌≡◌, not, ◌&&◌, filter, take}
use Rattle.geom.specs.KeyLists.{has_key}
use Rattle.impl_tiles.specs.Stores.{is_in_flight}
use Rattle.impl_tiles.proofs.picks.parted.Given as goal

abbrev pub invariant-loop-rank : goal.invariant-loop-rank
invariant-loop-rank l =
    (l.missing.items ≡ filter (λ r. not (has_key l.keys r.key) && not (is_in_flight l.store r.key)) (take l.rank-index l.ranks))
    × (l.ready.items ≡ filter (λ r. has_key l.keys r.key) (take l.rank-index l.ranks))
