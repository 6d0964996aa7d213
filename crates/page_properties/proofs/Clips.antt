-- The common part of several rects does not depend on how they are grouped.
use Rattle.std.proofs.Common.{◌≡◌, ℤ, pos, ◌+ℤ◌, ◌-ℤ◌, ◌<ℤ◌, int_lt, Bool, true, false, cond, ◌&&◌, Option, Some, None, arith, refl, sym, ◌∙◌, ap, inl, inr, ◌⊎◌}
use Rattle.std.proofs.lemmas.Int.{ints}
use Rattle.std.specs.Int.{int_max, int_min}
use Rattle.geom.specs.declared.rect.Rect.{Rect}
use Rattle.geom.specs.declared.span.Span.{Span}
use Rattle.geom.specs.Covers.{within, covers}
use Rattle.geom.specs.Common.{common, common_span, rect_of_spans, empty_rect}
use Rattle.geom.proofs.Spans.{inside, is_within_of, first_holds, within_none, common_points}
use Rattle.geom.proofs.Spans as spans
use Rattle.page_properties.specs.Placement.{both}

-- a rect that has a point, or the one that represents all that have none
abbrev pub IsNormal : Rect → Type 0
IsNormal r = (r ≡ empty_rect) ⊎ ((pos 0 <ℤ r.w) × (pos 0 <ℤ r.h))

abbrev pub IsLong : Option Span → Type 0
IsLong None = Unit {0}
IsLong (Some s) = pos 0 <ℤ s.len

long_by : (s e : ℤ) (t : Bool) → int_lt s e ≡ t → IsLong (cond t (Some (record { at = s; len = e -ℤ s })) None)
long_by s e true h = let l : s <ℤ e = grind (arith, ints) in omega (arith, ints)
long_by s e false h = tt

span_long : (a m b n : ℤ) → IsLong (common_span a m b n)
unfolding common_span
span_long a m b n = long_by (int_max a b) (int_min (a +ℤ m) (b +ℤ n)) (int_lt (int_max a b) (int_min (a +ℤ m) (b +ℤ n))) refl

normal_spans : (o q : Option Span) → IsLong o → IsLong q → IsNormal (rect_of_spans o q)
normal_spans (Some s) (Some t) h k = inr (h, k)
normal_spans (Some s) None h k = inl refl
normal_spans None q h k = inl refl

common_normal : (r s : Rect) → IsNormal (common r s)
common_normal r s = normal_spans _ _ (span_long r.x r.w s.x s.w) (span_long r.y r.h s.y s.h)

-- rects that cover the same points on both axes
same_rect : (r s : Rect) → r.x ≡ s.x → r.y ≡ s.y → r.w ≡ s.w → r.h ≡ s.h → r ≡ s
same_rect r s a b c d =
    ap (λ (z : ℤ). record { x = z; y = r.y; w = r.w; h = r.h }) a
    ∙ (ap (λ (z : ℤ). record { x = s.x; y = z; w = r.w; h = r.h }) b
    ∙ (ap (λ (z : ℤ). record { x = s.x; y = s.y; w = z; h = r.h }) c ∙ ap (λ (z : ℤ). record { x = s.x; y = s.y; w = s.w; h = z }) d))

last_holds : (at len : ℤ) → pos 0 <ℤ len → within at len (at +ℤ len -ℤ pos 1) ≡ true
last_holds at len h = is_within_of at len _ (record { low = omega (arith, ints); high = omega (arith, ints) })

-- the first and the last point of a rect that has one
corners : (r : Rect) → pos 0 <ℤ r.w → pos 0 <ℤ r.h
    → (covers r r.x r.y ≡ true) × (covers r (r.x +ℤ r.w -ℤ pos 1) (r.y +ℤ r.h -ℤ pos 1) ≡ true)
corners r w h =
    (spans.both_of _ _ (first_holds r.x r.w w) (first_holds r.y r.h h), spans.both_of _ _ (last_holds r.x r.w w) (last_holds r.y r.h h))

covers_nothing : (x y : ℤ) → covers empty_rect x y ≡ false
covers_nothing x y = rw (within_none x) refl

-- normal rects that cover the same points are the same
pub same_points : (r s : Rect) → IsNormal r → IsNormal s → ((x y : ℤ) → covers r x y ≡ covers s x y) → r ≡ s
same_points r s (inl h) (inl k) e = h ∙ sym k
same_points r s (inl h) (inr k) e =
    let c = corners s k.0 k.1 in
    absurd (cc (sym c.0 ∙ (sym (e s.x s.y) ∙ (ap (λ (q : Rect). covers q s.x s.y) h ∙ covers_nothing s.x s.y))))
same_points r s (inr h) (inl k) e =
    let c = corners r h.0 h.1 in
    absurd (cc (sym c.0 ∙ (e r.x r.y ∙ (ap (λ (q : Rect). covers q r.x r.y) k ∙ covers_nothing r.x r.y))))
same_points r s (inr h) (inr k) e =
    let c = corners r h.0 h.1 in
    let d = corners s k.0 k.1 in
    let p = spans.both _ _ (sym (e r.x r.y) ∙ c.0) in
    let q = spans.both _ _ (sym (e (r.x +ℤ r.w -ℤ pos 1) (r.y +ℤ r.h -ℤ pos 1)) ∙ c.1) in
    let u = spans.both _ _ (e s.x s.y ∙ d.0) in
    let v = spans.both _ _ (e (s.x +ℤ s.w -ℤ pos 1) (s.y +ℤ s.h -ℤ pos 1) ∙ d.1) in
    let a = inside s.x s.w r.x p.0 in
    let b = inside s.y s.h r.y p.1 in
    let f = inside s.x s.w _ q.0 in
    let g = inside s.y s.h _ q.1 in
    let i = inside r.x r.w s.x u.0 in
    let j = inside r.y r.h s.y u.1 in
    let l = inside r.x r.w _ v.0 in
    let m = inside r.y r.h _ v.1 in
    same_rect r s (omega (arith, ints, a.low, i.low)) (omega (arith, ints, b.low, j.low)) (omega (arith, ints, a.low, i.low, f.high, l.high)) (omega (arith, ints, b.low, j.low, g.high, m.high))

and_assoc : (a b c : Bool) → (a && b) && c ≡ a && (b && c)
and_assoc true b c = refl
and_assoc false b c = refl

pub common_assoc : (a b c : Rect) → common (common a b) c ≡ common a (common b c)
common_assoc a b c =
    same_points _ _ (common_normal (common a b) c) (common_normal a (common b c))
    (λ x y.
    common_points (common a b) c x y
    ∙ (ap (λ t. t && covers c x y) (common_points a b x y)
    ∙ (and_assoc (covers a x y) (covers b x y) (covers c x y)
    ∙ (ap (λ t. covers a x y && t) (sym (common_points b c x y)) ∙ sym (common_points a (common b c) x y)))))

-- restrictions likewise
pub both_assoc : (o p q : Option Rect) → both (both o p) q ≡ both o (both p q)
both_assoc None p q = refl
both_assoc (Some a) None q = refl
both_assoc (Some a) (Some b) None = refl
both_assoc (Some a) (Some b) (Some c) = ap Some (common_assoc a b c)
