-- The bin and the rank of one tile in one tree.
use Rattle.std.specs.Prelude.{ℕ, nat_le, Bool, ◌&&◌, if◌then◌else◌, Option, Some, None, option_map}
use Rattle.geom.specs.declared.tile.TileKey.{TileKey}
use Rattle.geom.specs.Common.{meets}
use Rattle.geom.specs.Gaps.{distance}
use Rattle.tile_priority.specs.declared.rank.Bin.{Bin}
use Rattle.tile_priority.specs.declared.rank.Bin.TheVariants as bin
use Rattle.tile_priority.specs.declared.rank.Side.{Side}
use Rattle.tile_priority.specs.declared.rank.Side.TheVariants as side
use Rattle.tile_priority.specs.declared.rank.Rank.{Rank}
use Rattle.tile_priority.specs.declared.tree_priority.TreePriority.{TreePriority}
use Rattle.tile_priority.specs.declared.tree_priority.TreePriority.TheVariants as priority
use Rattle.tile_priority.specs.declared.tile.Borders.{Borders}
use Rattle.tile_priority.specs.declared.tile.Seen.{Seen}

-- a tile is visible if its layer draws and its screen rect and its clip have a common pixel
abbrev pub is_visible : Seen → Bool
is_visible s = s.draws && meets s.screen s.clip

-- a visible tile is NOW; any other is SOON or EVENTUALLY if it is no further from the viewport than that border, whatever its clip and its opacity; else it has no bin
abbrev pub bin_at : Borders → ℕ → Option Bin
bin_at b d = if nat_le d b.soon then Some bin.Soon else (if nat_le d b.eventually then Some bin.Eventually else None)

abbrev pub bin_of : Borders → Seen → Option Bin
bin_of b s = if is_visible s then Some bin.Now else bin_at b (distance s.screen b.viewport)

-- the tree whose tiles come first has number 0 and the other 1; both have 0 if they are alike
abbrev pub tree_number : TreePriority → Side → ℕ
tree_number priority.Same s = 0
tree_number priority.Smooth side.Active = 0
tree_number priority.Smooth side.Pending = 1
tree_number priority.New side.Pending = 0
tree_number priority.New side.Active = 1

-- the rank of a tile with a bin
abbrev pub rank_of : Borders → Side → Seen → TileKey → Option Rank
rank_of b s seen k =
    option_map (λ bin. record { bin = bin; tree = tree_number b.priority s; distance = distance seen.screen b.viewport; key = k }) (bin_of b seen)
