-- How wanted ranks are kept: the best in order, and the others.
use Rattle.std.specs.Prelude.{◌≡◌, ℕ, ◌+◌, ◌≤◌, Bool, true, false, List, ◌++◌, length, map, Option, Some, None}
use Rattle.std.specs.declared.cmp.Ordering.{Ordering}
use Rattle.std.specs.declared.cmp.Ordering.TheVariants.{Less, Equal, Greater}
use Rattle.geom.specs.declared.tile.TileKey.{TileKey}
use Rattle.tile_priority.specs.declared.rank.Rank.{Rank}
use Rattle.tile_priority.specs.Ranks.{rank_cmp}
use Rattle.tile_priority.specs.Ordered.{In, IsInOrder, in_order}
use Rattle.tile_queue.specs.Queues.{rank_key}
use Rattle.tile_queue.specs.inner.Orders.{times}

-- the best stand in order before all others, and no key stands twice
pub record IsSplit (front rest : List Rank) : Type 0 where
  pub order : IsInOrder rank_cmp front
  pub behind : (x y : Rank) → In x front → In y rest → rank_cmp x y ≡ Less
  pub once : (q : TileKey) → times q (map rank_key (front ++ rest)) ≤ 1

-- some of the best are there if there is a rank at all, and each part has room for all
pub record IsParted (front rest : List Rank) (room rest_room : ℕ) : Type 0 where
  pub split : IsSplit front rest
  pub best : length front ≡ 0 → length rest ≡ 0
  pub few : length front + length rest ≤ room
  pub fits : room ≤ rest_room

-- the same ranks are split otherwise
pub record IsMoved (front rest front' rest' : List Rank) : Type 0 where
  pub split : IsSplit front' rest'
  pub same : in_order rank_cmp (front' ++ rest') ≡ in_order rank_cmp (front ++ rest)
  pub as_many : length front' + length rest' ≡ length front + length rest

-- a rank in this order to another does not come after it
abbrev pub is_before : Ordering → Bool
is_before Less = true
is_before Equal = true
is_before Greater = false

-- a rank does not come after this one, if there is one
abbrev pub is_up_to : Option Rank → Rank → Bool
is_up_to None r = true
is_up_to (Some last) r = is_before (rank_cmp r last)

-- one of the ranks is of this key, or none is
abbrev pub IsRankOf : List Rank → TileKey → Option Rank → Type 0
IsRankOf rs q (Some r) = In r rs × (r.key ≡ q)
IsRankOf rs q None = (r : Rank) → In r rs → r.key ≡ q → ⊥
