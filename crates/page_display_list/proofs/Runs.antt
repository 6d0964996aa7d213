-- What a rect covers of an area, one axis after the other.
use Rattle.std.proofs.Common.{ℕ, ◌+◌, ◌-◌, ◌<◌, ◌≤◌, ◌≡◌, ℤ, pos, negsuc, ◌+ℤ◌, ◌-ℤ◌, ◌≤ℤ◌, Bool, true, false, ◌&&◌, nat_le, nat_lt, arith, refl, ◌∙◌, ap}
use Rattle.std.specs.Int.{int_max, int_min}
use Rattle.std.proofs.lemmas.Int.{ints, clamps}
use Rattle.std.proofs.lemmas.Bool.Decides.{nat_tests}
use Rattle.geom.specs.declared.Rect.{Rect}
use Rattle.geom.specs.Covers.{within, IsSpan, IsSound}
use Rattle.geom.proofs.Spans.{inside, is_within_of, same_test}
use Rattle.page_display_list.specs.Bitmaps.{near}
use Rattle.page_display_list.specs.Shared.{IsRun, IsApart, IsOutside, IsShared}
use Rattle.page_display_list.specs.declared.covered_area.CoveredSpan.{CoveredSpan}

-- a count that is not negative
near_is : (z : ℤ) → pos 0 ≤ℤ z → pos (near z) ≡ z
near_is (pos n) h = refl
near_is (negsuc n) h = absurd (omega (arith, ints))

-- the gaps from both starts, and the length between the later start and the earlier end, are the run
pub run_made : (at len from count s e m n : ℤ) (g h k : ℕ) → s ≡ int_max at from → m ≡ at +ℤ len → n ≡ from +ℤ count → e ≡ int_min m n
    → from +ℤ pos g ≡ s → s +ℤ pos h ≡ e → at +ℤ pos k ≡ s
    → IsRun at len from count (record { at = g; len = h; skipped = k })
run_made at len from count s e m n g h k p q r t u v w = record {
  start = u ∙ p;
  end =
      let both : from +ℤ pos (g + h) ≡ e = omega (arith, ints) in
      both ∙ t ∙ ap (λ (z : ℤ). int_min z n) q ∙ ap (λ (z : ℤ). int_min (at +ℤ len) z) r;
  skipped = w ∙ p;
}

-- two bounds as tests
both_bounds : (a p b : ℕ) → a ≤ p → p < b → nat_le a p && nat_lt p b ≡ true
both_bounds a p b l h = grind (arith, nat_tests)

low_bound : (a p b : ℕ) → nat_le a p && nat_lt p b ≡ true → a ≤ p
low_bound a p b h = grind (arith, nat_tests)

high_bound : (a p b : ℕ) → nat_le a p && nat_lt p b ≡ true → p < b
high_bound a p b h = grind (arith, nat_tests)

-- a place of the axis is in the run exactly where the span covers its number
covered : (at len from count : ℤ) (run : CoveredSpan) (p : ℕ) → IsSpan from count → IsRun at len from count run → p < near count
    → within at len (from +ℤ pos p) ≡ nat_le run.at p && nat_lt p (run.at + run.len)
covered at len from count run p axis r lt =
    let size = near_is count axis.length_low in
    same_test _ _
    (λ h.
    let i = inside _ _ _ h in
    both_bounds run.at p (run.at + run.len) (omega (arith, ints, clamps)) (omega (arith, ints, clamps)))
    (λ h.
    let low = low_bound run.at p (run.at + run.len) h in
    let high = high_bound run.at p (run.at + run.len) h in
    is_within_of _ _ _ (record { low = omega (arith, ints, clamps); high = omega (arith, ints, clamps) }))

-- where the two share no number the span covers no place
uncovered : (at len from count : ℤ) (p : ℕ) → IsSpan from count → IsApart at len from count → p < near count
    → within at len (from +ℤ pos p) ≡ false
uncovered at len from count p axis apart lt =
    let size = near_is count axis.length_low in
    same_test _ _ (λ h. let i = inside _ _ _ h in absurd (omega (arith, ints, clamps))) (λ h. cc)

-- the run ends inside the axis
ends : (at len from count : ℤ) (run : CoveredSpan) → IsSpan from count → IsRun at len from count run → run.at + run.len ≤ near count
ends at len from count run axis r = let size = near_is count axis.length_low in omega (arith, ints, clamps)

-- and inside the span
kept : (at len from count : ℤ) (run : CoveredSpan) → IsSpan at len → IsRun at len from count run → run.skipped + run.len ≤ near len
kept at len from count run span r = let size = near_is len span.length_low in omega (arith, ints, clamps)

-- the place in the span of a place of the run
placed : (at len from count : ℤ) (run : CoveredSpan) (p : ℕ) → IsRun at len from count run → run.at ≤ p
    → near ((from +ℤ pos p) -ℤ at) ≡ p - run.at + run.skipped
placed at len from count run p r le =
    let e : (from +ℤ pos p) -ℤ at ≡ pos (p - run.at + run.skipped) = omega (arith, ints, clamps) in
    ap near e

and_shift : (a b c d : Bool) → (a && b) && (c && d) ≡ ((a && b) && c) && d
and_shift true true true d = refl
and_shift true true false d = refl
and_shift true false c d = refl
and_shift false b c d = refl

and_false : (a : Bool) → a && false ≡ false
and_false true = refl
and_false false = refl

-- the part of two runs
pub part_of_runs : (rect area : Rect) (across down : CoveredSpan) → IsSound rect → IsSound area
    → IsRun rect.x rect.w area.x area.w across → IsRun rect.y rect.h area.y area.h down
    → IsShared rect area (record {
      at = record { x = across.at; y = down.at; w = across.len; h = down.len };
      left = across.skipped;
      above = down.skipped;
    })
part_of_runs rect area across down sound whole h v = record {
  inside = record {
    across = ends rect.x rect.w area.x area.w across whole.across h;
    down = ends rect.y rect.h area.y area.h down whole.down v;
  };
  points = λ x y xw yh.
      rw (covered rect.x rect.w area.x area.w across x whole.across h xw, covered rect.y rect.h area.y area.h down y whole.down v yh)
      (and_shift (nat_le across.at x) (nat_lt x (across.at + across.len)) (nat_le down.at y) (nat_lt y (down.at + down.len)));
  columns = kept rect.x rect.w area.x area.w across sound.across h;
  rows = kept rect.y rect.h area.y area.h down sound.down v;
  column = λ x le. placed rect.x rect.w area.x area.w across x h le;
  row = λ y le. placed rect.y rect.h area.y area.h down y v le;
}

-- no column is shared
pub outside_across : (rect area : Rect) → IsSound area → IsApart rect.x rect.w area.x area.w → IsOutside rect area
outside_across rect area whole apart x y xw yh = rw (uncovered rect.x rect.w area.x area.w x whole.across apart xw) refl

-- no row is shared
pub outside_down : (rect area : Rect) → IsSound area → IsApart rect.y rect.h area.y area.h → IsOutside rect area
outside_down rect area whole apart x y xw yh =
    rw (uncovered rect.y rect.h area.y area.h y whole.down apart yh) (and_false (within rect.x rect.w (area.x +ℤ pos x)))
