-- The tiles of the keys so far.
use Rattle.std.proofs.Common.{◌≡◌, List, map, take}
use Rattle.geom.specs.KeyLists.{AreDistinctKeys}
use Rattle.tile_priority.specs.declared.rank.Rank.{Rank}
use Rattle.tile_priority.specs.Ordered.{SameMembers}
use Rattle.tile_queue.specs.Queues.{rank_key}
use Rattle.impl_tiles.specs.Choices.{tile_among}
use Rattle.impl_tiles.proofs.picks.ready_tiles.Given as goal

abbrev pub invariant-loop-key : goal.invariant-loop-key
invariant-loop-key l = (rs : List Rank) → AreDistinctKeys (map rank_key rs) → SameMembers l.ranks rs → l.ready.items ≡ map (tile_among rs l.pins) (take l.key-index l.keys)
