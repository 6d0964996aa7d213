-- What contracts see of a ready tile.
use Rattle.std.specs.Prelude.{◌≡◌, Bool, Option, Some, None}
use Rattle.geom.specs.declared.tile.TileKey.{TileKey}
use Rattle.tile_priority.specs.declared.rank.Rank.{Rank}

-- a tile whose picture is there: its key, its rank if it has one, and whether it must stay
pub record Tile : Type 0 where
  pub key : TileKey
  pub rank : Option Rank
  pub pinned : Bool

-- a rank that is there is of this key
abbrev pub IsRankOfKey : TileKey → Option Rank → Type 0
IsRankOfKey k None = Unit {0}
IsRankOfKey k (Some r) = r.key ≡ k
