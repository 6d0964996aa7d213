-- The places of a grid: how a layer is cut into tiles.
use Rattle.std.specs.Prelude.{ℕ, ◌*◌, ◌-◌, ◌/◌, min, ℤ, pos, unsigned_abs, nat_lt, Bool, true, false, ◌&&◌, ◌≡◌, List, [], ◌∷◌, map, flat_map, filter}
use Rattle.std.specs.Int.{div_ceil}
use Rattle.std.specs.List.{range_with_len}
use Rattle.geom.specs.declared.rect.Point.{Point}
use Rattle.geom.specs.declared.rect.Rect.{Rect}
use Rattle.geom.specs.declared.tile.Place.{Place}
use Rattle.geom.specs.Covers.{covers}
use Rattle.geom.specs.Common.{meets}
use Rattle.geom.specs.Sides.{Sides, IsGrid}

-- how many tiles a side takes; where the tile of a number starts, and how long it is: a whole tile, or what the side has left
unfoldable pub tiles : ℕ → ℕ → ℕ
tiles side tile = div_ceil side tile

-- the columns are numbered from 0 to one below the tiles of the width, the rows likewise
abbrev pub has : Sides → Place → Bool
has g p = nat_lt p.x (tiles g.w g.tile) && nat_lt p.y (tiles g.h g.tile)

-- the rect of the whole layer
abbrev pub bounds : Sides → Rect
bounds g = record { x = pos 0; y = pos 0; w = pos g.w; h = pos g.h }

abbrev pub part_at : ℕ → ℕ → ℤ
part_at tile k = pos (k * tile)

unfoldable pub part_len : ℕ → ℕ → ℕ → ℤ
part_len side tile k = pos (min tile (side - k * tile))

-- the rect of a place
abbrev pub rect_of_place : Sides → Place → Rect
rect_of_place g p = record { x = part_at g.tile p.x; y = part_at g.tile p.y; w = part_len g.w g.tile p.x; h = part_len g.h g.tile p.y }

-- the place that a point inside the grid lies in
abbrev pub place_of : Sides → Point → Place
place_of g p = record { x = unsigned_abs p.x / g.tile; y = unsigned_abs p.y / g.tile }

-- the places of one row by column, and all places by row and then by column
abbrev pub place : ℕ → ℕ → Place
place y x = record { x = x; y = y }

abbrev pub places_in_row : Sides → ℕ → List Place
places_in_row g y = map (place y) (range_with_len 0 (tiles g.w g.tile))

abbrev pub places : Sides → List Place
places g = flat_map (places_in_row g) (range_with_len 0 (tiles g.h g.tile))

-- those of them whose rect shares a point with the area
unfoldable pub places_touching : Sides → Rect → List Place
places_touching g area = filter (λ p. meets (rect_of_place g p) area) (places g)

-- the place is the only one of the grid whose rect covers the point
pub record IsPlaceOf (g : Sides) (x y : ℤ) (p : Place) : Type 0 where
  pub is_there : has g p ≡ true
  pub covers_it : covers (rect_of_place g p) x y ≡ true
  pub alone : (q : Place) → has g q ≡ true → covers (rect_of_place g q) x y ≡ true → q ≡ p

-- the places of each grid part its layer: a point of the layer lies in exactly one, and no place covers another point
pub record PartTheLayer : Type 0 where
  pub each_once : (g : Sides) → IsGrid g → (x y : ℤ) → covers (bounds g) x y ≡ true → (p : Place) × IsPlaceOf g x y p
  pub no_more : (g : Sides) → IsGrid g → (p : Place) (x y : ℤ) → has g p ≡ true → covers (rect_of_place g p) x y ≡ true → covers (bounds g) x y ≡ true

-- of the places of each grid those that cover a point of the layer are one, and no place covers another point: as lists
pub record CoverOnce : Type 0 where
  pub inside : (g : Sides) → IsGrid g → (x y : ℤ) → covers (bounds g) x y ≡ true → filter (λ q. covers (rect_of_place g q) x y) (places g) ≡ place_of g (record { x = x; y = y }) ∷ []
  pub outside : (g : Sides) → IsGrid g → (x y : ℤ) → covers (bounds g) x y ≡ false → filter (λ q. covers (rect_of_place g q) x y) (places g) ≡ []
