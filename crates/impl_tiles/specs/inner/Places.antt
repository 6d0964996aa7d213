-- What is found among ranks.
use Rattle.std.specs.Prelude.{◌≡◌, ◌<◌, ℕ, List, length, Option, Some, None, get_or}
use Rattle.geom.specs.declared.tile.TileKey.{TileKey}
use Rattle.tile_priority.specs.declared.rank.Rank.{Rank}
use Rattle.tile_priority.specs.Ordered.{In}

-- one of the ranks is of this key, or none is
abbrev pub IsRankAmong : List Rank → TileKey → Option Rank → Type 0
IsRankAmong rs q (Some r) = In r rs × (r.key ≡ q)
IsRankAmong rs q None = (r : Rank) → In r rs → r.key ≡ q → ⊥

-- the rank at this index is of this key, or none is
abbrev pub IsRankAt : List Rank → TileKey → Option ℕ → Type 0
IsRankAt rs q (Some at) = (at < length rs) × ((d : Rank) → (get_or rs at d).key ≡ q)
IsRankAt rs q None = (r : Rank) → In r rs → r.key ≡ q → ⊥
