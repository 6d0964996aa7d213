-- Tilings, and what is asked of them.
use Rattle.std.specs.Prelude.{◌≡◌, ℕ, ◌+◌, ◌*◌, Bool, true, ◌||◌, if◌then◌else◌, List, length, slice_index}
use Rattle.geom.specs.declared.rect.Rect.{Rect}
use Rattle.geom.specs.declared.tile.Place.{Place}
use Rattle.geom.specs.declared.tile.TileKey.{TileKey}
use Rattle.geom.specs.Sides.{Sides}
use Rattle.geom.specs.Grids.{has, tiles, rect_of_place}
use Rattle.region.specs.declared.change.LayerChange.{LayerChange}
use Rattle.region.specs.Points.{touched}

-- what contracts see of a tiling: the grid, and the stamps by row and then by column
pub record Tiled : Type 0 where
  pub grid : Sides
  pub stamps : List ℕ

-- there is one stamp for each place
abbrev pub IsWhole : Sides → List ℕ → Type 0
IsWhole g stamps = length stamps ≡ tiles g.w g.tile * tiles g.h g.tile

-- where the stamp of a place stands
abbrev pub index_of : Sides → Place → ℕ
index_of g p = p.y * tiles g.w g.tile + p.x

-- the stamp of a place
abbrev pub stamp_at : Tiled → Place → ℕ
stamp_at t p = slice_index t.stamps (index_of t.grid p)

-- the key of a place
abbrev pub key_of : Tiled → ℕ → Place → TileKey
key_of t layer p = record { layer = layer; x = p.x; y = p.y; stamp = stamp_at t p }

-- the tiling has this grid, and these stamps at its places
pub record HasStamps (t : Tiled) (g : Sides) (stamps : Place → ℕ) : Type 0 where
  pub grid : t.grid ≡ g
  pub whole : IsWhole g t.stamps
  pub places : (p : Place) → has g p ≡ true → stamp_at t p ≡ stamps p

-- a change shows in a rect of its layer: the layer changed whole, or a point of the rect changed
abbrev pub shows_in : LayerChange → Rect → Bool
shows_in c r = c.whole || touched c.region r

-- the places in which the change shows have the stamp, the others keep theirs
abbrev pub IsCarried : Tiled → LayerChange → ℕ → Tiled → Type 0
IsCarried old c stamp new =
    HasStamps new old.grid (λ p. if shows_in c (rect_of_place old.grid p) then stamp else stamp_at old p)
