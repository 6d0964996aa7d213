-- Rects that hold two others.
use Rattle.std.proofs.Common.{◌≡◌, ◌⊎◌, inl, inr, int_le, int_lt, ℤ, pos, ◌+ℤ◌, ◌≤ℤ◌, ◌<ℤ◌, Bool, true, false, ◌&&◌, ◌||◌, refl, sym, ◌∙◌, ap, arith}
use Rattle.std.specs.Int.{int_min}
use Rattle.std.proofs.lemmas.Int.{ints, clamps}
use Rattle.geom.specs.declared.Rect.{Rect}
use Rattle.geom.specs.Covers.{covers, within}
use Rattle.geom.proofs.Spans.{Inside, inside, is_within_of, both, both_of, same_test}
use Rattle.viz_scene.specs.Areas.{IsOnScreen, HasNoPoint, Holds, IsUnion}
use Rattle.viz_scene.specs.inner.Boths.{span_of_both, rect_of_both}

-- a test that would imply one that fails
pub not_either : (a b : Bool) → (b ≡ true → a ≡ true) → a ≡ false → b ≡ false
not_either a true f h = sym (f refl) ∙ h
not_either a false f h = refl

-- a rect of which one side is no longer than 0 has no point
no_number : (at len p : ℤ) → len ≤ℤ pos 0 → within at len p ≡ true → false ≡ true
no_number at len p low h = let i = inside at len p h in absurd (omega (arith, ints))

pub empty_across : (r : Rect) → r.w ≤ℤ pos 0 → HasNoPoint r
empty_across r low x y = not_either false (covers r x y) (λ h. no_number r.x r.w x low (both _ _ h).0) refl

pub empty_down : (r : Rect) → r.h ≤ℤ pos 0 → HasNoPoint r
empty_down r low x y = not_either false (covers r x y) (λ h. no_number r.y r.h y low (both _ _ h).1) refl

within_first : (a m b n p : ℤ) → within a m p ≡ true → within (int_min a b) (span_of_both a m b n) p ≡ true
within_first a m b n p h =
    let i = inside a m p h in
    is_within_of _ _ _ (record { low = omega (arith, ints, clamps); high = omega (arith, ints, clamps) })

within_second : (a m b n p : ℤ) → within b n p ≡ true → within (int_min a b) (span_of_both a m b n) p ≡ true
within_second a m b n p h =
    let i = inside b n p h in
    is_within_of _ _ _ (record { low = omega (arith, ints, clamps); high = omega (arith, ints, clamps) })

pub holds_first : (r s : Rect) → Holds (rect_of_both r s) r
holds_first r s x y =
    not_either (covers (rect_of_both r s) x y) (covers r x y)
    (λ h. let k = both _ _ h in both_of _ _ (within_first r.x r.w s.x s.w x k.0) (within_first r.y r.h s.y s.h y k.1))

pub holds_second : (r s : Rect) → Holds (rect_of_both r s) s
holds_second r s x y =
    not_either (covers (rect_of_both r s) x y) (covers s x y)
    (λ h. let k = both _ _ h in both_of _ _ (within_second r.x r.w s.x s.w x k.0) (within_second r.y r.h s.y s.h y k.1))

pub both_on_screen : (r s : Rect) → IsOnScreen r → IsOnScreen s → IsOnScreen (rect_of_both r s)
both_on_screen r s i j = record {
  left = omega (arith, ints, clamps);
  top = omega (arith, ints, clamps);
  width = omega (arith, ints, clamps);
  height = omega (arith, ints, clamps);
  right = omega (arith, ints, clamps);
  bottom = omega (arith, ints, clamps);
}

-- a number outside a span lies before or after it
outside_by : (a m p : ℤ) (t : Bool) → int_le a p ≡ t → (t && int_lt p (a +ℤ m)) ≡ false → (p <ℤ a) ⊎ ((a +ℤ m) ≤ℤ p)
outside_by a m p true e h = inr (grind (arith, ints))
outside_by a m p false e h = inl (grind (arith, ints))

pub outside : (a m p : ℤ) → within a m p ≡ false → (p <ℤ a) ⊎ ((a +ℤ m) ≤ℤ p)
unfolding within
outside a m p h = outside_by a m p (int_le a p) refl h

-- two spans without a gap make one span
in_second : (a m b n p : ℤ) → a ≤ℤ (b +ℤ n) → b ≤ℤ (a +ℤ m) → Inside (int_min a b) (span_of_both a m b n) p
    → (p <ℤ a) ⊎ ((a +ℤ m) ≤ℤ p) → within b n p ≡ true
in_second a m b n p first second i (inl before) = is_within_of b n p (record { low = omega (arith, ints, clamps); high = omega (arith, ints, clamps) })
in_second a m b n p first second i (inr behind) = is_within_of b n p (record { low = omega (arith, ints, clamps); high = omega (arith, ints, clamps) })

one_of : (s t : Bool) → (s ≡ false → t ≡ true) → (s || t) ≡ true
one_of true t f = refl
one_of false t f = f refl

either : (s t u : Bool) → (s || t) ≡ true → (s ≡ true → u ≡ true) → (t ≡ true → u ≡ true) → u ≡ true
either true t u h f g = f refl
either false t u h f g = g h

span_union : (a m b n p : ℤ) → a ≤ℤ (b +ℤ n) → b ≤ℤ (a +ℤ m)
    → within (int_min a b) (span_of_both a m b n) p ≡ (within a m p || within b n p)
span_union a m b n p first second =
    same_test _ _
    (λ h. one_of (within a m p) (within b n p) (λ out. in_second a m b n p first second (inside _ _ _ h) (outside a m p out)))
    (λ h. either (within a m p) (within b n p) _ h (within_first a m b n p) (within_second a m b n p))

-- a span and itself
span_same : (a m p : ℤ) → within (int_min a a) (span_of_both a m a m) p ≡ within a m p
span_same a m p =
    same_test _ _
    (λ h. let i = inside _ _ _ h in is_within_of a m p (record { low = omega (arith, ints, clamps); high = omega (arith, ints, clamps) }))
    (within_first a m a m p)

and_or : (a b t : Bool) → ((a || b) && t) ≡ ((a && t) || (b && t))
and_or true b true = refl
and_or true true false = refl
and_or true false false = refl
and_or false b t = refl

or_and : (t a b : Bool) → (t && (a || b)) ≡ ((t && a) || (t && b))
or_and true a b = refl
or_and false a b = refl

-- rects of the same rows, and of the same columns
pub beside_union : (r s : Rect) → r.y ≡ s.y → r.h ≡ s.h → r.x ≤ℤ (s.x +ℤ s.w) → s.x ≤ℤ (r.x +ℤ r.w) → IsUnion r s (rect_of_both r s)
beside_union r s e f first second x y =
    let across = span_union r.x r.w s.x s.w x first second in
    let rows : within (int_min r.y s.y) (span_of_both r.y r.h s.y s.h) y ≡ within r.y r.h y =
    ap (λ (a : ℤ). within (int_min r.y a) (span_of_both r.y r.h a s.h) y) (sym e)
    ∙ ap (λ (m : ℤ). within (int_min r.y r.y) (span_of_both r.y r.h r.y m) y) (sym f)
    ∙ span_same r.y r.h y in
    let second_rows : within r.y r.h y ≡ within s.y s.h y = ap (λ (a : ℤ). within a r.h y) e ∙ ap (λ (m : ℤ). within s.y m y) f in
    ap (λ (t : Bool). t && within (int_min r.y s.y) (span_of_both r.y r.h s.y s.h) y) across
    ∙ ap (λ (t : Bool). (within r.x r.w x || within s.x s.w x) && t) rows
    ∙ and_or (within r.x r.w x) (within s.x s.w x) (within r.y r.h y)
    ∙ ap (λ (t : Bool). (within r.x r.w x && within r.y r.h y) || (within s.x s.w x && t)) second_rows

pub stacked_union : (r s : Rect) → r.x ≡ s.x → r.w ≡ s.w → r.y ≤ℤ (s.y +ℤ s.h) → s.y ≤ℤ (r.y +ℤ r.h) → IsUnion r s (rect_of_both r s)
stacked_union r s e f first second x y =
    let down = span_union r.y r.h s.y s.h y first second in
    let columns : within (int_min r.x s.x) (span_of_both r.x r.w s.x s.w) x ≡ within r.x r.w x =
    ap (λ (a : ℤ). within (int_min r.x a) (span_of_both r.x r.w a s.w) x) (sym e)
    ∙ ap (λ (m : ℤ). within (int_min r.x r.x) (span_of_both r.x r.w r.x m) x) (sym f)
    ∙ span_same r.x r.w x in
    let second_columns : within r.x r.w x ≡ within s.x s.w x = ap (λ (a : ℤ). within a r.w x) e ∙ ap (λ (m : ℤ). within s.x m x) f in
    ap (λ (t : Bool). within (int_min r.x s.x) (span_of_both r.x r.w s.x s.w) x && t) down
    ∙ ap (λ (t : Bool). t && (within r.y r.h y || within s.y s.h y)) columns
    ∙ or_and (within r.x r.w x) (within r.y r.h y) (within s.y s.h y)
    ∙ ap (λ (t : Bool). (within r.x r.w x && within r.y r.h y) || (t && within s.y s.h y)) second_columns

-- a rect of four numbers
pub same_rect : (x y w h : ℤ) (r : Rect) → x ≡ r.x → y ≡ r.y → w ≡ r.w → h ≡ r.h → record { x = x; y = y; w = w; h = h } ≡ r
same_rect x y w h r p q s t = λ i. record { x = p i; y = q i; w = s i; h = t i }
