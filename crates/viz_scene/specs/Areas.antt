-- Rects that hold others, and unions of rects.
use Rattle.std.specs.Prelude.{◌≡◌, ℤ, ◌≤ℤ◌, ◌+ℤ◌, false, ◌||◌}
use Rattle.geom.specs.declared.Rect.{Rect}
use Rattle.geom.specs.Covers.{covers}
use Rattle.viz_scene.specs.Sound.{IsIn}

-- the rect lies on the largest screen
abbrev pub IsOnScreen : Rect → Type 0
IsOnScreen r = IsIn 2048 2048 r

-- the rect has no point
abbrev pub HasNoPoint : Rect → Type 0
HasNoPoint r = (x y : ℤ) → covers r x y ≡ false

-- a point outside the first rect is outside the second
abbrev pub Holds : Rect → Rect → Type 0
Holds r s = (x y : ℤ) → covers r x y ≡ false → covers s x y ≡ false

-- the rect covers the points of two others and no more
abbrev pub IsUnion : Rect → Rect → Rect → Type 0
IsUnion r s t = (x y : ℤ) → covers t x y ≡ (covers r x y || covers s x y)

-- no point lies between two spans, each given by its start and its length
abbrev pub HaveNoGap : ℤ → ℤ → ℤ → ℤ → Type 0
HaveNoGap a m b n = (a ≤ℤ (b +ℤ n)) × (b ≤ℤ (a +ℤ m))

-- the rects have the same rows, and no column lies between them
abbrev pub AreBeside : Rect → Rect → Type 0
AreBeside r s = ((r.y ≡ s.y) × (r.h ≡ s.h)) × HaveNoGap r.x r.w s.x s.w

-- the rects have the same columns, and no row lies between them
abbrev pub AreStacked : Rect → Rect → Type 0
AreStacked r s = ((r.x ≡ s.x) × (r.w ≡ s.w)) × HaveNoGap r.y r.h s.y s.h
