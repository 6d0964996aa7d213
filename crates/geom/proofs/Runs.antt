-- The tiles of a side that a span meets are a run, found by two divisions.
use Rattle.std.proofs.Common.{◌≡◌, ℕ, ◌+◌, ◌-◌, ◌*◌, ◌/◌, ◌<◌, ◌≤◌, max, ℤ, pos, negsuc, nat_abs, ◌+ℤ◌, ◌-ℤ◌, ◌≤ℤ◌, ◌<ℤ◌, int_lt, cond, Bool, true, false, ◌&&◌, nat_lt, nat_le, Option, Some, None, arith, refl, sym, ◌∙◌, ap}
use Rattle.std.proofs.lemmas.Int.{ints, clamps}
use Rattle.std.proofs.lemmas.Bool.Decides.{nat_tests}
use Rattle.std.proofs.lemmas.Nat.{mul-le}
use Rattle.std.specs.Int.{int_max, int_min}
use Rattle.geom.specs.declared.span.Span.{Span}
use Rattle.geom.specs.declared.cut.IndexRange.{IndexRange}
use Rattle.geom.specs.Covers.{within, IsSpan}
use Rattle.geom.specs.Common.{common_span, spans_meet, IsCommon}
use Rattle.geom.specs.Sides.{IsLayerSide}
use Rattle.geom.specs.Grids.{part_at, part_len}
use Rattle.geom.specs.IndexRanges.{IsMeeting}
use Rattle.geom.proofs.Spans.{holds, shared, same_test, both, both_of}
use Rattle.geom.proofs.Meets.{shared_number, spans_meet_at}
use Rattle.geom.proofs.Cuts.{natural, within_natural, part_number, part_quotient, in_part, quotients_ordered, quotient_facts, quotient_below}

common_by : (a m b n v e : ℤ) (s : Span) (t : Bool) → v ≡ int_max a b → e ≡ int_min (a +ℤ m) (b +ℤ n) → int_lt v e ≡ t
    → cond t (Some (record { at = v; len = e -ℤ v })) None ≡ Some s → IsSpan a m → IsSpan b n → IsCommon a m s
common_by a m b n v e s false p q h k i j = cc
common_by a m b n v e s true p q h k i j =
    let l : v <ℤ e = grind (arith, ints) in
    let f : s.at ≡ v = cc in
    let g : s.len ≡ e -ℤ v = cc in
    record {
      start = omega (arith, ints, clamps);
      end = omega (arith, ints, clamps);
      some = omega (arith, ints, clamps);
      sound = record {
        from_low = omega (arith, ints, clamps);
        from_high = omega (arith, ints, clamps);
        length_low = omega (arith, ints, clamps);
        length_high = omega (arith, ints, clamps);
      };
    }

pub common_facts : (a m b n : ℤ) (s : Span) → common_span a m b n ≡ Some s → IsSpan a m → IsSpan b n → IsCommon a m s
unfolding common_span
common_facts a m b n s h i j = common_by a m b n (int_max a b) (int_min (a +ℤ m) (b +ℤ n)) s (int_lt (int_max a b) (int_min (a +ℤ m) (b +ℤ n))) refl refl refl h i j

run_holds : (side tile a m k : ℕ) (at len : ℤ) → 1 ≤ tile
    → ((p : ℤ) → within (pos a) (pos m) p ≡ within (pos 0) (pos side) p && within at len p)
    → (p : ℤ) (n : ℕ) → p ≡ pos n → n < side → within (part_at tile k) (part_len side tile k) p ≡ true → within at len p ≡ true
    → nat_le (a / tile) k && nat_lt k ((a + m - 1) / tile + 1) ≡ true
run_holds side tile a m k at len t e p n is below h j =
    let i : within (pos 0) (pos side) p ≡ true = rw is (within_natural 0 side n (omega arith) (omega arith)) in
    let w : within (pos a) (pos m) p ≡ true = e p ∙ both_of _ _ i j in
    let g = natural a m p w in
    let same : n ≡ g.0 = cc in
    let q = part_quotient side tile k n t (rw is at h) in
    let low = quotients_ordered a n tile t (omega (arith, g.2)) in
    let high = quotients_ordered n (a + m - 1) tile t (omega (arith, g.3)) in
    both_of (nat_le (a / tile) k) (nat_lt k ((a + m - 1) / tile + 1)) (grind (arith, nat_tests)) (grind (arith, nat_tests))

run_reached : (side tile a m k : ℕ) (at len : ℤ) → 1 ≤ tile → 0 < m → a + m ≤ side
    → ((p : ℤ) → within (pos a) (pos m) p ≡ within (pos 0) (pos side) p && within at len p)
    → a / tile ≤ k → k ≤ (a + m - 1) / tile → spans_meet (part_at tile k) (part_len side tile k) at len ≡ true
run_reached side tile a m k at len t some inner e low high =
    let f = quotient_facts a tile t in
    let g = quotient_facts (a + m - 1) tile t in
    let u : a / tile * tile ≤ k * tile = mul-le (a / tile) tile k tile low (omega arith) in
    let v : k * tile ≤ (a + m - 1) / tile * tile = mul-le k tile ((a + m - 1) / tile) tile high (omega arith) in
    let n : ℕ = max (k * tile) a in
    let here : n ≡ max (k * tile) a = refl in
    let w = e (pos n) in
    let b = both _ _ (sym w ∙ within_natural a m n (omega arith) (omega (arith, f.1, g.0))) in
    spans_meet_at _ _ _ _ (pos n) (in_part side tile k n (omega arith) (omega (arith, f.1)) (omega (arith, g.0))) b.1

-- a tile meets the span exactly where its number is between the quotients of the span's ends
run_meets : (side tile a m k : ℕ) (at len : ℤ) → 1 ≤ tile → 0 < m → a + m ≤ side
    → ((p : ℤ) → within (pos a) (pos m) p ≡ within (pos 0) (pos side) p && within at len p)
    → spans_meet (part_at tile k) (part_len side tile k) at len ≡ nat_le (a / tile) k && nat_lt k ((a + m - 1) / tile + 1)
run_meets side tile a m k at len t some inner e =
    same_test _ _
    (λ h.
    let s = shared_number _ _ _ _ h in
    let f = part_number side tile k s.0 s.1 in
    run_holds side tile a m k at len t e s.0 f.0 f.1 f.2 s.1 s.2)
    (λ h. let b = both (nat_le (a / tile) k) (nat_lt k ((a + m - 1) / tile + 1)) h in run_reached side tile a m k at len t some inner e (grind (arith, nat_tests)) (grind (arith, nat_tests)))

some_by : (side tile : ℕ) (at len : ℤ) (s : Span) (r : IndexRange) (a m : ℕ) → IsLayerSide tile → s.at ≡ pos a → s.len ≡ pos m → 0 < m → a + m ≤ side
    → ((p : ℤ) → within (pos a) (pos m) p ≡ within (pos 0) (pos side) p && within at len p)
    → r.first ≡ a / tile → r.end ≡ (a + m - 1) / tile + 1 → IsMeeting side tile at len r
some_by side tile at len s r a m cut i j some inner e first end =
    let below = quotient_below side tile (a + m - 1) cut.low (omega arith) in
    let order = quotients_ordered a (a + m - 1) tile cut.low (omega arith) in
    record {
      ordered = omega arith;
      bounded = grind (arith, nat_tests);
      meeting = λ k. rw (first, end) (run_meets side tile a m k at len cut.low some inner e);
    }

natural_of : (z : ℤ) → pos 0 ≤ℤ z → (n : ℕ) × (z ≡ pos n)
natural_of (pos n) h = (n, refl)
natural_of (negsuc n) h = absurd (omega (arith, ints))

some_from : (side tile : ℕ) (at len : ℤ) (s : Span) (r : IndexRange) (a m : ℕ) → IsLayerSide tile → s.at ≡ pos a → s.len ≡ pos m
    → IsCommon (pos 0) (pos side) s → ((p : ℤ) → within s.at s.len p ≡ within (pos 0) (pos side) p && within at len p)
    → r.first ≡ nat_abs s.at / tile → r.end ≡ nat_abs (s.at +ℤ s.len -ℤ pos 1) / tile + 1 → IsMeeting side tile at len r
some_from side tile at len s r a m cut i j c e first end =
    let some : 0 < m = omega (arith, ints, c.some) in
    let inner : a + m ≤ side = omega (arith, ints, c.end) in
    let last : s.at +ℤ s.len -ℤ pos 1 ≡ pos (a + m - 1) = omega (arith, ints) in
    some_by side tile at len s r a m cut i j some inner (rw (i, j) at e) (first ∙ ap (λ z. nat_abs z / tile) i) (end ∙ ap (λ z. nat_abs z / tile + 1) last)

-- a side is a span
pub side_span : (side : ℕ) → IsLayerSide side → IsSpan (pos 0) (pos side)
side_span side i = record {
  from_low = omega (arith, ints);
  from_high = omega (arith, ints);
  length_low = omega (arith, ints);
  length_high = omega (arith, ints, i.high);
}

-- the run of a span that the side and the area have in common
pub meeting_some : (side tile : ℕ) (at len : ℤ) (s : Span) (r : IndexRange) → IsLayerSide side → IsLayerSide tile → IsSpan at len
    → common_span (pos 0) (pos side) at len ≡ Some s
    → r.first ≡ nat_abs s.at / tile → r.end ≡ nat_abs (s.at +ℤ s.len -ℤ pos 1) / tile + 1 → IsMeeting side tile at len r
meeting_some side tile at len s r whole cut i h first end =
    let c = common_facts (pos 0) (pos side) at len s h (side_span side whole) i in
    let a = natural_of s.at c.start in
    let m = natural_of s.len (omega (arith, ints, c.some)) in
    some_from side tile at len s r a.0 m.0 cut a.1 m.1 c (λ p. ap (λ (o : Option Span). holds o p) (sym h) ∙ shared (pos 0) (pos side) at len p) first end

none_meets : (side tile k : ℕ) (at len p : ℤ) → ((q : ℤ) → false ≡ within (pos 0) (pos side) q && within at len q)
    → (n : ℕ) → p ≡ pos n → n < side → within at len p ≡ true → ⊥
none_meets side tile k at len p e n is below h =
    let i : within (pos 0) (pos side) p ≡ true = rw is (within_natural 0 side n (omega arith) (omega arith)) in
    let b = both_of _ _ i h in
    let f = e p in cc

-- where they have none no tile meets the area
pub meeting_none : (side tile : ℕ) (at len : ℤ) → common_span (pos 0) (pos side) at len ≡ None
    → IsMeeting side tile at len (record { first = 0; end = 0 })
meeting_none side tile at len h = record {
  ordered = omega arith;
  bounded = omega arith;
  meeting = λ k.
      same_test _ _
      (λ m.
      let s = shared_number _ _ _ _ m in
      let f = part_number side tile k s.0 s.1 in
      absurd (none_meets side tile k at len s.0 (λ q. ap (λ (o : Option Span). holds o q) (sym h) ∙ shared (pos 0) (pos side) at len q) f.0 f.1 f.2 s.2))
      (λ m. absurd (grind (arith, nat_tests)));
}
