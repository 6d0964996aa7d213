-- What a write of one stamp changes.
use Rattle.std.specs.Prelude.{◌≡◌, ◌<◌, ℕ, ◌+◌, ◌*◌, nat_le, nat_lt, Bool, true, ◌&&◌, if◌then◌else◌, List, length, slice_index}
use Rattle.geom.specs.declared.cut.IndexRange.{IndexRange}
use Rattle.geom.specs.declared.tile.Place.{Place}
use Rattle.geom.specs.Sides.{Sides}
use Rattle.geom.specs.Grids.{has}
use Rattle.tile_tiling.specs.Tiles.{index_of}

-- the number is one of the run
abbrev pub in_run : IndexRange → ℕ → Bool
in_run r k = nat_le r.first k && nat_lt k r.end

-- from one index on and below another the stamp stands, elsewhere what was there
pub record WritesRow (old new : List ℕ) (from to stamp : ℕ) : Type 0 where
  pub long : length new ≡ length old
  pub each : (k : ℕ) → slice_index new k ≡ (if nat_le from k && nat_lt k to then stamp else slice_index old k)

-- in the cells that pass the test the stamp stands, where each row has this many cells
pub record WritesCells (wide : ℕ) (old new : List ℕ) (test : ℕ → ℕ → Bool) (stamp : ℕ) : Type 0 where
  pub long : length new ≡ length old
  pub each : (x y : ℕ) → x < wide
      → slice_index new (y * wide + x) ≡ (if test x y then stamp else slice_index old (y * wide + x))

-- at the places that pass the test the stamp stands
pub record WritesPlaces (g : Sides) (old new : List ℕ) (test : Place → Bool) (stamp : ℕ) : Type 0 where
  pub long : length new ≡ length old
  pub each : (p : Place) → has g p ≡ true
      → slice_index new (index_of g p) ≡ (if test p then stamp else slice_index old (index_of g p))
