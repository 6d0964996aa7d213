-- Runs of neighbouring columns or rows, and the block of places that two runs make.
use Rattle.std.specs.Prelude.{ℕ, ◌-◌, ◌≤◌, ℤ, nat_le, nat_lt, ◌&&◌, ◌≡◌, List, map, flat_map}
use Rattle.std.specs.List.{range_with_len}
use Rattle.geom.specs.declared.tile.Place.{Place}
use Rattle.geom.specs.declared.cut.IndexRange.{IndexRange}
use Rattle.geom.specs.Common.{spans_meet}
use Rattle.geom.specs.Grids.{tiles, part_at, part_len, place}

-- the numbers from `first` on and below `end`
abbrev pub indices_in : IndexRange → List ℕ
indices_in r = range_with_len r.first (r.end - r.first)

-- the run is that of the tiles of a side whose part meets the span
pub record IsMeeting (side tile : ℕ) (at len : ℤ) (r : IndexRange) : Type 0 where
  pub ordered : r.first ≤ r.end
  pub bounded : r.end ≤ tiles side tile
  pub meeting : (k : ℕ) → spans_meet (part_at tile k) (part_len side tile k) at len ≡ nat_le r.first k && nat_lt k r.end

-- the places of one row, in these columns
abbrev pub line : IndexRange → ℕ → List Place
line columns y = map (place y) (indices_in columns)

-- the places of these columns and rows, by row and then by column
unfoldable pub block : IndexRange → IndexRange → List Place
block columns rows = flat_map (line columns) (indices_in rows)
