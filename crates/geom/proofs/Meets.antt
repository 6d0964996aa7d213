-- Whether spans and rects meet, a rect moved, and how far two spans lie apart.
use Rattle.std.proofs.Common.{◌≡◌, ℕ, ℤ, pos, negsuc, ap, ◌+ℤ◌, ◌-ℤ◌, ◌<ℤ◌, int_lt, Bool, true, arith, refl, ◌↔◌, IsTrue, max, nat_abs}
use Rattle.std.proofs.lemmas.Int.{ints, clamps}
use Rattle.std.specs.Int.{int_max, int_min, int_gap}
use Rattle.geom.specs.declared.rect.Rect.{Rect}
use Rattle.geom.specs.declared.rect.Point.{Point}
use Rattle.geom.specs.Covers.{within, covers}
use Rattle.geom.specs.Common.{spans_meet, meets, Meet}
use Rattle.geom.specs.Gaps.{shifted, span_gap}
use Rattle.geom.proofs.Spans.{inside, is_within_of, same_test, both, both_of}

-- the later start is a number of both spans where they meet
met_by : (a m b n s e : ℤ) → s ≡ int_max a b → e ≡ int_min (a +ℤ m) (b +ℤ n) → int_lt s e ≡ true
    → (within a m s ≡ true) × (within b n s ≡ true)
met_by a m b n s e p q h =
    let k : s <ℤ e = grind (arith, ints) in (
      is_within_of a m s (record { low = omega (arith, ints, clamps); high = omega (arith, ints, clamps) }),
      is_within_of b n s (record { low = omega (arith, ints, clamps); high = omega (arith, ints, clamps) }),
    )

pub shared_number : (a m b n : ℤ) → spans_meet a m b n ≡ true → (p : ℤ) × (within a m p ≡ true) × (within b n p ≡ true)
unfolding spans_meet
shared_number a m b n h =
    let k = met_by a m b n (int_max a b) (int_min (a +ℤ m) (b +ℤ n)) refl refl h in (int_max a b, k.0, k.1)

meet_by : (a m b n p s e : ℤ) → s ≡ int_max a b → e ≡ int_min (a +ℤ m) (b +ℤ n) → within a m p ≡ true → within b n p ≡ true
    → int_lt s e ≡ true
meet_by a m b n p s e q r h k =
    let i = inside a m p h in
    let j = inside b n p k in
    let t : s <ℤ e = omega (arith, ints, clamps) in grind (arith, ints)

-- spans with a common number meet
pub spans_meet_at : (a m b n p : ℤ) → within a m p ≡ true → within b n p ≡ true → spans_meet a m b n ≡ true
unfolding spans_meet
spans_meet_at a m b n p h k = meet_by a m b n p (int_max a b) (int_min (a +ℤ m) (b +ℤ n)) refl refl h k

-- rects meet as a test exactly where they share a point
pub meet_points : (r s : Rect) → meets r s ≡ true → Meet r s
meet_points r s h =
    let k = both _ _ h in
    let across = shared_number r.x r.w s.x s.w k.0 in
    let down = shared_number r.y r.h s.y s.h k.1 in
    (across.0, down.0, both_of _ _ across.1 down.1, both_of _ _ across.2 down.2)

pub points_meet : (r s : Rect) → Meet r s → meets r s ≡ true
points_meet r s (x, y, h, k) =
    let i = both _ _ h in
    let j = both _ _ k in
    both_of _ _ (spans_meet_at r.x r.w s.x s.w x i.0 j.0) (spans_meet_at r.y r.h s.y s.h y i.1 j.1)

pub touching : (r s : Rect) (t : Bool) → t ≡ meets r s → IsTrue t ↔ Meet r s
touching r s t e = rw e (meet_points r s, points_meet r s)

within_moved : (at len d p : ℤ) → within (at +ℤ d) len (p +ℤ d) ≡ within at len p
within_moved at len d p =
    same_test _ _
    (λ h. let i = inside _ _ _ h in is_within_of at len p (record { low = omega (arith, ints); high = omega (arith, ints) }))
    (λ h. let i = inside _ _ _ h in is_within_of (at +ℤ d) len (p +ℤ d) (record { low = omega (arith, ints); high = omega (arith, ints) }))

-- a moved rect covers the moved points
pub covers_shifted : (r : Rect) (by : Point) (x y : ℤ) → covers (shifted r by) (x +ℤ by.x) (y +ℤ by.y) ≡ covers r x y
covers_shifted r by x y = rw (within_moved r.x r.w by.x x, within_moved r.y r.h by.y y) refl

-- the gap from one number up to another, as a difference
gap_difference : (x y : ℤ) → pos (int_gap x y) ≡ int_max (y -ℤ x) (pos 0)
gap_difference (pos a) (pos b) = omega (arith, ints, clamps)
gap_difference (pos a) (negsuc b) = omega (arith, ints, clamps)
gap_difference (negsuc a) (pos b) = omega (arith, ints, clamps)
gap_difference (negsuc a) (negsuc b) = omega (arith, ints, clamps)

gap_by : (d e u w : ℤ) (g h : ℕ) → pos g ≡ int_max d (pos 0) → pos h ≡ int_max e (pos 0) → u ≡ int_max d e → w ≡ int_max u (pos 0)
    → w ≡ pos (max g h)
gap_by d e u w g h i j k l = omega (arith, ints, clamps)

-- the larger of two differences, 0 where both are below it, is the gap
pub gap_is : (a m b n u w : ℤ) → u ≡ int_max (b -ℤ (a +ℤ m)) (a -ℤ (b +ℤ n)) → w ≡ int_max u (pos 0) → nat_abs w ≡ span_gap a m b n
unfolding span_gap
gap_is a m b n u w p q =
    ap nat_abs (gap_by (b -ℤ (a +ℤ m)) (a -ℤ (b +ℤ n)) u w (int_gap (a +ℤ m) b) (int_gap (b +ℤ n) a) (gap_difference (a +ℤ m) b) (gap_difference (b +ℤ n) a) p q)
