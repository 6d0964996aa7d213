-- What lists of rects cover.
use Rattle.std.proofs.Common.{◌≡◌, ◌⊎◌, inl, inr, ℕ, suc, ◌+◌, ◌<◌, ℤ, pos, negsuc, ◌+ℤ◌, ◌≤ℤ◌, ◌<ℤ◌, int_lt, Bool, true, false, ◌||◌, nat_lt, List, [], ◌∷◌, length, get_or, swap_remove, sum_by, All, IsPermutation, refl, sym, ◌∙◌, ap, subst, arith}
use Rattle.std.specs.List.{list_any}
use Rattle.std.specs.Int.{int_min, int_gap}
use Rattle.std.proofs.lemmas.Bool.Decides.{nat_tests}
use Rattle.std.proofs.lemmas.Int.{ints, clamps}
use Rattle.std.proofs.lemmas.List.Sums.{sum_by-cons}
use Rattle.std.proofs.lemmas.List.Sorted.{All-permutation, sum_by-IsPermutation, IsPermutation-swap_remove}
use Rattle.geom.specs.declared.Rect.{Rect}
use Rattle.geom.specs.Covers.{covers}
use Rattle.geom.proofs.Spans.{inside, is_within_of, both, both_of}
use Rattle.region.specs.Points.{covered}
use Rattle.viz_scene.specs.Areas.{IsOnScreen, IsUnion}
use Rattle.viz_occlusion.specs.inner.Cover.{IsBlock, IsRectAt}

-- how many rects cover a point tells whether one does
abbrev one_if : Bool → ℕ
one_if true = 1
one_if false = 0

any_counted : (p : Rect → Bool) (rs : List Rect) → list_any p rs ≡ nat_lt 0 (sum_by (λ r. one_if (p r)) rs)
any_counted p [] = refl
any_counted p (r ∷ rs) = ap (λ (b : Bool). p r || b) (any_counted p rs) ∙ one_more (p r) (sum_by (λ r. one_if (p r)) rs) ∙ ap (nat_lt 0) (sym (sum_by-cons (λ r. one_if (p r)) r rs))
  where
    one_more : (b : Bool) (n : ℕ) → (b || nat_lt 0 n) ≡ nat_lt 0 (one_if b + n)
    one_more true n = grind (arith, nat_tests)
    one_more false n = let same : n ≡ 0 + n = omega arith in ap (nat_lt 0) same

-- the order of the rects does not matter
covered_again : (rs ss : List Rect) → IsPermutation rs ss → (x y : ℤ) → covered rs x y ≡ covered ss x y
covered_again rs ss p x y =
    any_counted (λ r. covers r x y) rs
    ∙ sym (ap (nat_lt 0) (sum_by-IsPermutation (λ r. one_if (covers r x y)) rs ss p))
    ∙ sym (any_counted (λ r. covers r x y) ss)

joined : (t s w : Bool) → (t || (s || w)) ≡ ((s || t) || w)
joined true true w = refl
joined true false w = refl
joined false true w = refl
joined false false w = refl

-- a rect of the list that makes one rect with another represents both
pub joined_same : (rs rest : List Rect) (i : ℕ) (s whole union : Rect) → i < length rs → s ≡ get_or rs i s → rest ≡ swap_remove rs i s
    → IsUnion s whole union → (x y : ℤ) → (covered rest x y || covers union x y) ≡ (covered rs x y || covers whole x y)
joined_same rs rest i s whole union lt e f is x y =
    ap (λ (ts : List Rect). covered ts x y || covers union x y) f
    ∙ ap (λ (b : Bool). covered (swap_remove rs i s) x y || b) (is x y)
    ∙ joined (covered (swap_remove rs i s) x y) (covers s x y) (covers whole x y)
    ∙ ap (λ (b : Bool). b || covers whole x y) (sym (covered_again rs (s ∷ swap_remove rs i s) (IsPermutation-swap_remove rs i s lt e) x y))

-- the other rects of the list stay on the screen
pub rest_inside : (rs rest : List Rect) (i : ℕ) (s : Rect) → i < length rs → s ≡ get_or rs i s → rest ≡ swap_remove rs i s → All IsOnScreen rs → All IsOnScreen rest
rest_inside rs rest i s lt e f all =
    subst (All IsOnScreen) (sym f)
    (λ k d less. All-permutation IsOnScreen rs (s ∷ swap_remove rs i s) (IsPermutation-swap_remove rs i s lt e) all (suc k) d (omega arith))

-- numbers are in order one way or the other
before_or_not : (a b : ℤ) → (a <ℤ b) ⊎ (b ≤ℤ a)
before_or_not a b = by_test (int_lt a b) refl
  where
    by_test : (t : Bool) → int_lt a b ≡ t → (a <ℤ b) ⊎ (b ≤ℤ a)
    by_test true e = inl (grind (arith, ints))
    by_test false e = inr (grind (arith, ints))

-- a block that one rect widens
pub block_more : (rects : List Rect) (left x y end right low : ℤ) (r : Rect) → IsBlock rects left x y end → IsRectAt rects x y r
    → right ≡ r.x +ℤ r.w → low ≡ int_min end (r.y +ℤ r.h) → IsBlock rects left right y low
block_more rects left x y end right low r block at e f px py from_left to_right from_top to_bottom =
    by_side (before_or_not px x)
  where
    by_side : (px <ℤ x) ⊎ (x ≤ℤ px) → covered rects px py ≡ true
    by_side (inl before) = block px py from_left before from_top (omega (arith, ints, clamps))
    by_side (inr behind) =
        let k = both _ _ at.here in
        let across = inside r.x r.w x k.0 in
        let down = inside r.y r.h y k.1 in
        at.held px py
        (both_of _ _ (is_within_of r.x r.w px (record { low = omega (arith, ints); high = omega (arith, ints) }))
        (is_within_of r.y r.h py (record { low = omega (arith, ints); high = omega (arith, ints, clamps) })))

pub right_end : (rects : List Rect) (x y : ℤ) (r : Rect) (right : ℤ) → IsRectAt rects x y r → right ≡ r.x +ℤ r.w → x <ℤ right
right_end rects x y r right at e = let across = inside r.x r.w x (both _ _ at.here).0 in omega (arith, ints)

pub lower_end : (rects : List Rect) (x y end low : ℤ) (r : Rect) → IsRectAt rects x y r → y <ℤ end → low ≡ int_min end (r.y +ℤ r.h) → (y <ℤ low) × (low ≤ℤ end)
lower_end rects x y end low r at lt e =
    let below : y <ℤ (r.y +ℤ r.h) = (inside r.y r.h y (both _ _ at.here).1).high in
    (omega (arith, ints, clamps), omega (arith, ints, clamps))

pub is_less : (a b : ℤ) → int_lt a b ≡ true → a <ℤ b
is_less a b h = grind (arith, ints)

-- a gap that gets smaller
pub gap_falls : (x y end : ℤ) → x <ℤ end → x <ℤ y → int_gap y end < int_gap x end
gap_falls (pos a) (pos b) (pos c) l k = omega (arith, ints)
gap_falls (pos a) (pos b) (negsuc c) l k = absurd (omega (arith, ints))
gap_falls (pos a) (negsuc b) end l k = absurd (omega (arith, ints))
gap_falls (negsuc a) (pos b) (pos c) l k = omega (arith, ints)
gap_falls (negsuc a) (pos b) (negsuc c) l k = omega (arith, ints)
gap_falls (negsuc a) (negsuc b) (pos c) l k = omega (arith, ints)
gap_falls (negsuc a) (negsuc b) (negsuc c) l k = omega (arith, ints)
