-- A tile that has a bin meets the area near the viewport.
use Rattle.std.proofs.Common.{◌≡◌, ℕ, ◌+◌, ◌≤◌, ℤ, pos, negsuc, ◌+ℤ◌, ◌-ℤ◌, ◌<ℤ◌, ◌≤ℤ◌, int_lt, Bool, true, false, max, Option, Some, None, refl, arith}
use Rattle.std.specs.Prelude.{nat_le, if◌then◌else◌}
use Rattle.std.specs.Int.{int_max, int_min, int_gap}
use Rattle.std.proofs.lemmas.Int.{ints, clamps}
use Rattle.std.proofs.lemmas.Bool.Decides.{nat_tests}
use Rattle.geom.specs.declared.rect.Rect.{Rect}
use Rattle.geom.specs.Covers.{within}
use Rattle.geom.specs.Common.{spans_meet, meets}
use Rattle.geom.specs.Gaps.{span_gap, distance}
use Rattle.geom.proofs.Spans.{inside, is_within_of, both, both_of}
use Rattle.geom.proofs.Meets.{meet_points, points_meet}
use Rattle.tile_priority.specs.declared.rank.Bin.{Bin}
use Rattle.tile_priority.specs.declared.rank.Bin.TheVariants as bin
use Rattle.tile_priority.specs.declared.tile.Borders.{Borders}
use Rattle.tile_priority.specs.declared.tile.Seen.{Seen}
use Rattle.tile_priority.specs.Bins.{is_visible, bin_at, bin_of}
use Rattle.model_history.proofs.BoolFacts.{and_right, not_both}
use Rattle.impl_ranks.specs.Areas.{inflated, area_near, IsSeenNear}

-- the gap from one number up to another, as a difference
gap_is : (x y : ℤ) → pos (int_gap x y) ≡ int_max (y -ℤ x) (pos 0)
gap_is (pos a) (pos b) = omega (arith, ints, clamps)
gap_is (pos a) (negsuc b) = omega (arith, ints, clamps)
gap_is (negsuc a) (pos b) = omega (arith, ints, clamps)
gap_is (negsuc a) (negsuc b) = omega (arith, ints, clamps)

near_by : (a m b n s t : ℤ) (e g h : ℕ) → pos 0 <ℤ m → pos 0 ≤ℤ n → pos g ≡ int_max (b -ℤ (a +ℤ m)) (pos 0) → pos h ≡ int_max (a -ℤ (b +ℤ n)) (pos 0) → max g h ≤ e
    → s ≡ int_max a (b -ℤ pos (e + 1)) → t ≡ int_min (a +ℤ m) ((b -ℤ pos (e + 1)) +ℤ (n +ℤ pos ((e + 1) + (e + 1)))) → int_lt s t ≡ true
near_by a m b n s t e g h p q i j l u v = let k : s <ℤ t = omega (arith, ints, clamps) in grind (arith, ints)

-- spans with a small gap meet once one of them is made longer
span_near : (a m b n : ℤ) (e : ℕ) → pos 0 <ℤ m → pos 0 ≤ℤ n → span_gap a m b n ≤ e → spans_meet a m (b -ℤ pos (e + 1)) (n +ℤ pos ((e + 1) + (e + 1))) ≡ true
unfolding spans_meet span_gap
span_near a m b n e p q l = near_by a m b n _ _ e (int_gap (a +ℤ m) b) (int_gap (b +ℤ n) a) p q (gap_is (a +ℤ m) b) (gap_is (b +ℤ n) a) l refl refl

-- a number of a span is one of a longer span
within_more : (b n p : ℤ) (e : ℕ) → within b n p ≡ true → within (b -ℤ pos (e + 1)) (n +ℤ pos ((e + 1) + (e + 1))) p ≡ true
within_more b n p e h = let i = inside b n p h in is_within_of _ _ _ (record { low = omega (arith, ints, i.low); high = omega (arith, ints, i.high) })

-- what meets the viewport meets the area
meets_more : (r v : Rect) (e : ℕ) → meets r v ≡ true → meets r (inflated (e + 1) v) ≡ true
meets_more r v e h =
    let (x, y, i, j) = meet_points r v h in
    let k = both _ _ j in
    points_meet r (inflated (e + 1) v) (x, y, i, both_of _ _ (within_more v.x v.w x e k.0) (within_more v.y v.h y e k.1))

distance_near : (r v : Rect) (e : ℕ) → pos 0 <ℤ r.w → pos 0 <ℤ r.h → pos 0 ≤ℤ v.w → pos 0 ≤ℤ v.h → distance r v ≤ e → meets r (inflated (e + 1) v) ≡ true
distance_near r v e w h vw vh l =
    both_of _ _ (span_near r.x r.w v.x v.w e w vw (omega (arith, l))) (span_near r.y r.h v.y v.h e h vh (omega (arith, l)))

-- a bin by the distance
within_border : (b : Borders) (d : ℕ) (x : Bin) → b.soon ≤ b.eventually → bin_at b d ≡ Some x → d ≤ b.eventually
within_border b d x l e = by_soon (nat_le d b.soon) refl e
  where
    by_late : (t : Bool) → nat_le d b.eventually ≡ t → (if t then Some bin.Eventually else None) ≡ Some x → d ≤ b.eventually
    by_late true f e = grind (arith, nat_tests)
    by_late false f e = cc

    by_soon : (t : Bool) → nat_le d b.soon ≡ t → (if t then Some bin.Soon else (if nat_le d b.eventually then Some bin.Eventually else None)) ≡ Some x → d ≤ b.eventually
    by_soon true f e = let k : d ≤ b.soon = grind (arith, nat_tests) in omega (arith, k, l)
    by_soon false f e = by_late (nat_le d b.eventually) refl e

pub bin_near : (b : Borders) (seen : Seen) (x : Bin) → IsSeenNear b seen → bin_of b seen ≡ Some x → meets seen.screen (area_near b) ≡ true
bin_near b seen x near e = by_visible (is_visible seen) refl e
  where
    by_visible : (t : Bool) → is_visible seen ≡ t → (if t then Some bin.Now else bin_at b (distance seen.screen b.viewport)) ≡ Some x → meets seen.screen (area_near b) ≡ true
    by_visible true v e = meets_more seen.screen b.viewport b.eventually (near.inside (and_right seen.draws (meets seen.screen seen.clip) v))
    by_visible false v e = distance_near seen.screen b.viewport b.eventually near.wide near.tall near.view_w near.view_h (within_border b (distance seen.screen b.viewport) x near.borders e)

pub no_bin : (b : Borders) (seen : Seen) → IsSeenNear b seen → meets seen.screen (area_near b) ≡ false → bin_of b seen ≡ None
no_bin b seen near away = by_bin (bin_of b seen) refl
  where
    by_bin : (o : Option Bin) → bin_of b seen ≡ o → bin_of b seen ≡ None
    by_bin None e = e
    by_bin (Some x) e = absurd (not_both (meets seen.screen (area_near b)) (bin_near b seen x near e) away)
