-- The area that opaque quads hide, by bands of 32 rows.
use Rattle.std.specs.Prelude.{◌≡◌, ℕ, ◌+◌, ◌*◌, ◌<◌, ◌≤◌, ◌⊎◌, ℤ, pos, true, false, ◌||◌, ◌<ℤ◌, ◌≤ℤ◌, Bool, List, [], get_or}
use Rattle.geom.specs.declared.Rect.{Rect}
use Rattle.geom.specs.Covers.{covers}
use Rattle.region.specs.Points.{covered}

-- a row lies in the band of this number
pub record InBand (k : ℕ) (y : ℤ) : Type 0 where
  pub low : pos (32 * k) ≤ℤ y
  pub high : y <ℤ pos (32 * k + 32)

-- the rects of a band cover a point
abbrev pub has_point : List (List Rect) → ℕ → ℤ → ℤ → Bool
has_point bands k x y = covered (get_or bands k []) x y

-- no band covers a point
abbrev pub IsNothing : List (List Rect) → Type 0
IsNothing bands = (k : ℕ) → get_or bands k [] ≡ []

-- a list of rects covers the points of one more
abbrev pub Gains : List Rect → List Rect → Rect → Type 0
Gains old new r = (x y : ℤ) → covered new x y ≡ (covered old x y || covers r x y)

-- the bands from one on and before another cover the points of one more rect, the others are as they were
pub record GainsFrom (first end : ℕ) (old new : List (List Rect)) (r : Rect) : Type 0 where
  pub more : (k : ℕ) → first ≤ k → k < end → Gains (get_or old k []) (get_or new k []) r
  pub same : (k : ℕ) → (k < first) ⊎ (end ≤ k) → get_or new k [] ≡ get_or old k []

-- each band covers the points of one more rect that lie in its rows
abbrev pub GainsInBands : List (List Rect) → List (List Rect) → Rect → Type 0
GainsInBands old new r = (k : ℕ) (x y : ℤ) → InBand k y → has_point new k x y ≡ (has_point old k x y || covers r x y)

-- a point lies in some columns and rows
pub record IsWithin (left right top bottom x y : ℤ) : Type 0 where
  pub from_left : left ≤ℤ x
  pub from_right : x <ℤ right
  pub from_top : top ≤ℤ y
  pub from_bottom : y <ℤ bottom

-- rects cover each point of some columns and rows that lies in a band
abbrev pub IsBlockOfBand : ℕ → List Rect → ℤ → ℤ → ℤ → ℤ → Type 0
IsBlockOfBand k rects left right top bottom = (x y : ℤ) → InBand k y → IsWithin left right top bottom x y → covered rects x y ≡ true

-- a point of some columns and rows that lies in a band is not covered
pub record IsOpenInBand (k : ℕ) (rects : List Rect) (left right top bottom : ℤ) : Type 0 where
  pub x : ℤ
  pub y : ℤ
  pub row : InBand k y
  pub inside : IsWithin left right top bottom x y
  pub outside : covered rects x y ≡ false

-- each point of some columns and rows is covered by the rects of its band
abbrev pub IsBlockOfBands : List (List Rect) → ℤ → ℤ → ℤ → ℤ → Type 0
IsBlockOfBands bands left right top bottom = (k : ℕ) → IsBlockOfBand k (get_or bands k []) left right top bottom

-- some point of some columns and rows is not
pub record IsOpenInBands (bands : List (List Rect)) (left right top bottom : ℤ) : Type 0 where
  pub band : ℕ
  pub gap : IsOpenInBand band (get_or bands band []) left right top bottom

-- each point of an area is covered by the rects of its band
abbrev pub IsInBands : Rect → List (List Rect) → Type 0
IsInBands area bands = (k : ℕ) (x y : ℤ) → InBand k y → covers area x y ≡ true → has_point bands k x y ≡ true

-- some point of an area is not
pub record HasGap (area : Rect) (bands : List (List Rect)) : Type 0 where
  pub band : ℕ
  pub x : ℤ
  pub y : ℤ
  pub row : InBand band y
  pub inside : covers area x y ≡ true
  pub outside : has_point bands band x y ≡ false
