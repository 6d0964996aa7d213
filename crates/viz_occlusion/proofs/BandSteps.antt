-- What bands cover.
use Rattle.std.proofs.Common.{◌≡◌, ◌⊎◌, inl, inr, ℕ, zero, suc, ◌+◌, ◌*◌, ◌/◌, ◌<◌, ◌≤◌, ℤ, pos, negsuc, ◌+ℤ◌, ◌≤ℤ◌, ◌<ℤ◌, Bool, true, false, ◌||◌, List, [], length, get_or, refl, sym, ◌∙◌, ap, subst, arith}
use Rattle.std.specs.Int.{int_min, int_max}
use Rattle.std.proofs.lemmas.Int.{ints, clamps}
use Rattle.std.proofs.lemmas.List.{get_or_default}
use Rattle.geom.specs.declared.Rect.{Rect}
use Rattle.geom.specs.Covers.{covers}
use Rattle.geom.proofs.Spans.{inside, is_within_of, both, both_of}
use Rattle.region.specs.Points.{covered}
use Rattle.viz_scene.specs.Areas.{IsOnScreen}
use Rattle.viz_scene.specs.Views.{QuadView}
use Rattle.viz_scene.specs.Opaque.{IsCovered}
use Rattle.viz_occlusion.specs.inner.Cover.{IsBlock, IsOpen, IsCover}
use Rattle.viz_occlusion.specs.inner.Bands.{InBand, has_point, GainsFrom, GainsInBands, IsBlockOfBand, IsOpenInBand, IsBlockOfBands, IsOpenInBands, IsInBands, HasGap}

-- ---- numbers

-- a number is below another, or it is not
less_or_not : (a b : ℕ) → (a < b) ⊎ (b ≤ a)
less_or_not zero zero = inr (omega arith)
less_or_not zero (suc b) = inl (omega arith)
less_or_not (suc a) zero = inr (omega arith)
less_or_not (suc a) (suc b) = up (less_or_not a b)
  where
    up : (a < b) ⊎ (b ≤ a) → (suc a < suc b) ⊎ (suc b ≤ suc a)
    up (inl l) = inl (omega (arith, l))
    up (inr l) = inr (omega (arith, l))

-- each row lies in a band
in_some_band : (y : ℤ) → pos 0 ≤ℤ y → (k : ℕ) × InBand k y
in_some_band (pos n) h = (n / 32, record { low = omega (arith, ints); high = omega (arith, ints) })
in_some_band (negsuc n) h = absurd (omega (arith, ints, h))

-- ---- adding

-- no point above or below a rect is one of the rect's
off_rows : (r : Rect) (x y : ℤ) → (y <ℤ r.y) ⊎ ((r.y +ℤ r.h) ≤ℤ y) → covers r x y ≡ false
off_rows r x y off = by_test (covers r x y) refl off
  where
    by_test : (t : Bool) → covers r x y ≡ t → (y <ℤ r.y) ⊎ ((r.y +ℤ r.h) ≤ℤ y) → covers r x y ≡ false
    by_test false e far = e
    by_test true e (inl above) = let low : r.y ≤ℤ y = (inside r.y r.h y (both _ _ e).1).low in absurd (omega (arith, ints, above, low))
    by_test true e (inr below) = let high : y <ℤ (r.y +ℤ r.h) = (inside r.y r.h y (both _ _ e).1).high in absurd (omega (arith, ints, below, high))

or_false : (b c : Bool) → c ≡ false → b ≡ (b || c)
or_false true c e = refl
or_false false c e = sym e

-- if the bands that the rect meets have its points, all bands have those that lie in their rows
pub gains_all : (first end : ℕ) (old new : List (List Rect)) (r : Rect) → InBand first r.y → (r.y +ℤ r.h) ≤ℤ pos (32 * end) → GainsFrom first end old new r
    → GainsInBands old new r
gains_all first end old new r start stop is k x y row = by_place (less_or_not k first) (less_or_not k end)
  where
    same : (k < first) ⊎ (end ≤ k) → covers r x y ≡ false → has_point new k x y ≡ (has_point old k x y || covers r x y)
    same far off = ap (λ (z : List Rect). covered z x y) (is.same k far) ∙ or_false (has_point old k x y) (covers r x y) off

    by_place : (k < first) ⊎ (first ≤ k) → (k < end) ⊎ (end ≤ k) → has_point new k x y ≡ (has_point old k x y || covers r x y)
    by_place (inl before) end_side =
        let low = start.low in let high = row.high in same (inl before) (off_rows r x y (inl (omega (arith, ints, before, low, high))))
    by_place (inr from) (inl to) = is.more k from to x y
    by_place (inr from) (inr after) = let low = row.low in same (inr after) (off_rows r x y (inr (omega (arith, ints, after, low, stop))))

-- ---- asking

-- the rows of a band among some rows
pub block_of_band : (k : ℕ) (rects : List Rect) (left right top bottom from to : ℤ) → from ≡ int_max top (pos (32 * k))
    → to ≡ int_min bottom (pos (32 * k) +ℤ pos 32) → IsBlock rects left right from to → IsBlockOfBand k rects left right top bottom
block_of_band k rects left right top bottom from to e f block x y row within =
    let low = row.low in
    let high = row.high in
    let above = within.from_top in
    let below = within.from_bottom in
    block x y within.from_left within.from_right (omega (arith, ints, clamps, low, above, e)) (omega (arith, ints, clamps, high, below, f))

pub open_in_band : (k : ℕ) (rects : List Rect) (left right top bottom from to : ℤ) → from ≡ int_max top (pos (32 * k))
    → to ≡ int_min bottom (pos (32 * k) +ℤ pos 32) → IsOpen rects left right from to → IsOpenInBand k rects left right top bottom
open_in_band k rects left right top bottom from to e f o =
    let above = o.from_top in
    let below = o.from_bottom in
    record {
      x = o.x;
      y = o.y;
      row = record { low = omega (arith, ints, clamps, above, e); high = omega (arith, ints, clamps, below, f) };
      inside =
          record {
            from_left = o.from_left;
            from_right = o.from_right;
            from_top = omega (arith, ints, clamps, above, e);
            from_bottom = omega (arith, ints, clamps, below, f);
          };
      outside = o.outside;
    }

-- one band more is covered
pub bands_more : (i : ℕ) (bands : List (List Rect)) (left right top bottom : ℤ) → ((k : ℕ) → k < i → IsBlockOfBand k (get_or bands k []) left right top bottom)
    → IsBlockOfBand i (get_or bands i []) left right top bottom → (k : ℕ) → k < i + 1 → IsBlockOfBand k (get_or bands k []) left right top bottom
bands_more i bands left right top bottom before here k lt = by_place (less_or_not k i)
  where
    by_place : (k < i) ⊎ (i ≤ k) → IsBlockOfBand k (get_or bands k []) left right top bottom
    by_place (inl less) = before k less
    by_place (inr not_less) =
        let e : i ≡ k = omega (arith, lt, not_less) in subst (λ (n : ℕ). IsBlockOfBand n (get_or bands n []) left right top bottom) e here

-- the rects of a band
pub band_at : (bands : List (List Rect)) (i : ℕ) (band rects : List Rect) → i < length bands → band ≡ get_or bands i band → rects ≡ band → rects ≡ get_or bands i []
band_at bands i band rects lt e f = f ∙ e ∙ sym (get_or_default bands i [] band lt)

pub block_at : (bands : List (List Rect)) (i : ℕ) (rects : List Rect) (left right top bottom : ℤ) → rects ≡ get_or bands i []
    → IsBlockOfBand i rects left right top bottom → IsBlockOfBand i (get_or bands i []) left right top bottom
block_at bands i rects left right top bottom e block = subst (λ (rs : List Rect). IsBlockOfBand i rs left right top bottom) e block

pub open_at : (bands : List (List Rect)) (i : ℕ) (rects : List Rect) (left right top bottom : ℤ) → rects ≡ get_or bands i []
    → IsOpenInBand i rects left right top bottom → IsOpenInBands bands left right top bottom
open_at bands i rects left right top bottom e o = record { band = i; gap = subst (λ (rs : List Rect). IsOpenInBand i rs left right top bottom) e o }

-- an area as columns and rows
pub area_in_bands : (area : Rect) (bands : List (List Rect)) (right bottom : ℤ) → right ≡ area.x +ℤ area.w → bottom ≡ area.y +ℤ area.h
    → IsBlockOfBands bands area.x right area.y bottom → IsInBands area bands
area_in_bands area bands right bottom e f block k x y row h =
    let here = both _ _ h in
    let across = inside area.x area.w x here.0 in
    let down = inside area.y area.h y here.1 in
    let r = across.high in
    let b = down.high in
    block k x y row (record { from_left = across.low; from_right = omega (arith, ints, r, e); from_top = down.low; from_bottom = omega (arith, ints, b, f) })

pub area_gap : (area : Rect) (bands : List (List Rect)) (right bottom : ℤ) → right ≡ area.x +ℤ area.w → bottom ≡ area.y +ℤ area.h
    → IsOpenInBands bands area.x right area.y bottom → HasGap area bands
area_gap area bands right bottom e f o =
    let r = o.gap.inside.from_right in
    let b = o.gap.inside.from_bottom in
    record {
      band = o.band;
      x = o.gap.x;
      y = o.gap.y;
      row = o.gap.row;
      inside =
          both_of _ _ (is_within_of area.x area.w o.gap.x (record { low = o.gap.inside.from_left; high = omega (arith, ints, r, e) }))
          (is_within_of area.y area.h o.gap.y (record { low = o.gap.inside.from_top; high = omega (arith, ints, b, f) }));
      outside = o.gap.outside;
    }

-- ---- quads

-- a quad each of whose points is covered is hidden
pub hidden_by : (at : Rect) (bands : List (List Rect)) (later : List QuadView) → IsOnScreen at → IsInBands at bands → IsCover later bands
    → (x y : ℤ) → covers at x y ≡ true → IsCovered x y later
hidden_by at bands later on are is x y h =
    let top = on.top in
    let low : at.y ≤ℤ y = (inside at.y at.h y (both _ _ h).1).low in
    let some = in_some_band y (omega (arith, ints, top, low)) in
    is.sound some.0 x y some.1 (are some.0 x y some.1 h)
