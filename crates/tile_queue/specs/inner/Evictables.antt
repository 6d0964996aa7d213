-- What an evictable tile of the queue is to the choice.
use Rattle.std.specs.Prelude.{Bool, false, List, [], ◌∷◌, Some, None}
use Rattle.std.specs.declared.cmp.Ordering.{Ordering}
use Rattle.geom.specs.declared.tile.TileKey.{TileKey}
use Rattle.tile_priority.specs.declared.rank.Bin.{Bin}
use Rattle.tile_priority.specs.declared.rank.Rank.{Rank}
use Rattle.tile_priority.specs.Ranks.{rank_cmp}
use Rattle.tile_priority.specs.Tiles.{Tile}
use Rattle.tile_priority.specs.Ordered.{with_member}
use Rattle.tile_priority.specs.Choice.{is_worse, unranked, ranked, worst_cmp}
use Rattle.tile_priority.specs.Choice as choosing
use Rattle.tile_queue.specs.declared.evictable.Evictable.{Evictable}
use Rattle.tile_queue.specs.declared.evictable.Evictable.TheVariants.{Unranked, Ranked}

-- the evictable tile of the choice
abbrev pub given : Evictable → choosing.Evictable
given (Unranked k) = unranked k.0
given (Ranked r) = ranked r.0

-- the ready tile that it is
abbrev pub tile_of : Evictable → Tile
tile_of (Unranked k) = record { key = k.0; rank = None; pinned = false }
tile_of (Ranked r) = record { key = r.0.key; rank = Some r.0; pinned = false }

-- its key
abbrev pub key_of : Evictable → TileKey
key_of (Unranked k) = k.0
key_of (Ranked r) = r.0.key

-- the worst first
abbrev pub eviction_cmp : Evictable → Evictable → Ordering
eviction_cmp u v = worst_cmp (given u) (given v)

-- it may be evicted for a tile of this bin
abbrev pub is_worse_than : Bin → Evictable → Bool
is_worse_than b v = is_worse (tile_of v).rank b

-- the ranks with that of an evictable tile, which is wanted again, if it has one
abbrev pub again : Evictable → List Rank → List Rank
again (Unranked k) rs = rs
again (Ranked r) rs = with_member rank_cmp r.0 rs

-- the ranks with those of these evictable tiles, one after another
abbrev pub wanted_again : List Evictable → List Rank → List Rank
wanted_again [] rs = rs
wanted_again (v ∷ vs) rs = wanted_again vs (again v rs)
