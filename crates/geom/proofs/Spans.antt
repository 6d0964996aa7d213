-- The numbers of one axis, and the common part of two spans.
use Rattle.std.proofs.Common.{◌≡◌, ℤ, pos, ◌+ℤ◌, ◌-ℤ◌, ◌≤ℤ◌, ◌<ℤ◌, int_lt, Bool, true, false, cond, ◌&&◌, Option, Some, None, arith, refl, sym, ◌∙◌}
use Rattle.std.proofs.lemmas.Int.{ints, clamps}
use Rattle.std.specs.Int.{int_max, int_min}
use Rattle.geom.specs.declared.span.Span.{Span}
use Rattle.geom.specs.declared.rect.Rect.{Rect}
use Rattle.geom.specs.Covers.{within, covers, IsSpan, IsSound}
use Rattle.geom.specs.Common.{common_span, rect_of_spans, common, empty_rect, Meet}

-- a number of a span, as two bounds
pub record Inside (at len p : ℤ) : Type 0 where
  pub low : at ≤ℤ p
  pub high : p <ℤ (at +ℤ len)

-- `within` says that its number is inside
pub inside : (at len p : ℤ) → within at len p ≡ true → Inside at len p
unfolding within
inside at len p h = record { low = grind (arith, ints); high = grind (arith, ints) }

pub is_within_of : (at len p : ℤ) → Inside at len p → within at len p ≡ true
unfolding within
is_within_of at len p h = let l = h.low in let k = h.high in grind (arith, ints)

-- two tests that imply each other are equal
pub same_test : (a b : Bool) → (a ≡ true → b ≡ true) → (b ≡ true → a ≡ true) → a ≡ b
same_test true true f g = refl
same_test true false f g = sym (f refl)
same_test false true f g = g refl
same_test false false f g = refl

pub both : (a b : Bool) → a && b ≡ true → (a ≡ true) × (b ≡ true)
both true true h = (refl, refl)
both true false h = cc
both false b h = cc

pub both_of : (a b : Bool) → a ≡ true → b ≡ true → a && b ≡ true
both_of a b h k = rw (h, k) refl

-- the branch that a known test takes
pub taken : {A : Type 0} (t : Bool) (x y : A) → t ≡ true → x ≡ cond t x y
taken t x y h = rw h refl

pub not_taken : {A : Type 0} (t : Bool) (x y : A) → t ≡ false → y ≡ cond t x y
not_taken t x y h = rw h refl

-- what the code computes where the spans meet, and where they do not
pub met : (a m b n s e : ℤ) → s ≡ int_max a b → e ≡ int_min (a +ℤ m) (b +ℤ n) → int_lt s e ≡ true
    → Some (record { at = s; len = e -ℤ s }) ≡ common_span a m b n
unfolding common_span
met a m b n s e p q h = rw (p, q) (taken _ _ _ (rw (p, q) at h))

pub apart : (a m b n s e : ℤ) → s ≡ int_max a b → e ≡ int_min (a +ℤ m) (b +ℤ n) → int_lt s e ≡ false
    → None ≡ common_span a m b n
unfolding common_span
apart a m b n s e p q h = not_taken _ _ _ (rw (p, q) at h)

-- the numbers of a span that may be missing
abbrev pub holds : Option Span → ℤ → Bool
holds (Some s) p = within s.at s.len p
holds None p = false

pub holds_span : (a m b n p s e : ℤ) → s ≡ int_max a b → e ≡ int_min (a +ℤ m) (b +ℤ n)
    → within s (e -ℤ s) p ≡ within a m p && within b n p
holds_span a m b n p s e q r =
    same_test _ _
    (λ h. let i = inside _ _ _ h in
    both_of _ _ (is_within_of _ _ _ (record { low = omega (arith, ints, clamps); high = omega (arith, ints, clamps) }))
    (is_within_of _ _ _ (record { low = omega (arith, ints, clamps); high = omega (arith, ints, clamps) })))
    (λ h. let k = both _ _ h in
    let i = inside _ _ _ k.0 in
    let j = inside _ _ _ k.1 in
    is_within_of _ _ _ (record { low = omega (arith, ints, clamps); high = omega (arith, ints, clamps) }))

-- a span that may be missing is a proper one: it has a number, and it is one axis of a sound rect
abbrev pub Proper : Option Span → Type 0
Proper (Some s) = IsSpan s.at s.len × (pos 0 <ℤ s.len)
Proper None = Unit {0}

-- two spans whose later start is not below the earlier end share no number
apart_by : (a m b n p s e : ℤ) → s ≡ int_max a b → e ≡ int_min (a +ℤ m) (b +ℤ n) → int_lt s e ≡ false
    → false ≡ within a m p && within b n p
apart_by a m b n p s e q r h =
    let g : e ≤ℤ s = grind (arith, ints) in
    same_test _ _ (λ k. cc)
    (λ k. let t = both _ _ k in
    let i = inside _ _ _ t.0 in
    let j = inside _ _ _ t.1 in
    absurd (omega (arith, ints, clamps)))

shared_by : (a m b n p : ℤ) (t : Bool) → int_lt (int_max a b) (int_min (a +ℤ m) (b +ℤ n)) ≡ t
    → holds (cond t (Some (record { at = int_max a b; len = int_min (a +ℤ m) (b +ℤ n) -ℤ int_max a b })) None) p
    ≡ within a m p && within b n p
shared_by a m b n p true h = holds_span a m b n p (int_max a b) (int_min (a +ℤ m) (b +ℤ n)) refl refl
shared_by a m b n p false h = apart_by a m b n p (int_max a b) (int_min (a +ℤ m) (b +ℤ n)) refl refl h

-- the common span holds the numbers of both
pub shared : (a m b n p : ℤ) → holds (common_span a m b n) p ≡ within a m p && within b n p
unfolding common_span
shared a m b n p = shared_by a m b n p (int_lt (int_max a b) (int_min (a +ℤ m) (b +ℤ n))) refl

proper_by : (a m b n : ℤ) (t : Bool) (s e : ℤ) → s ≡ int_max a b → e ≡ int_min (a +ℤ m) (b +ℤ n) → int_lt s e ≡ t → IsSpan a m → IsSpan b n
    → Proper (cond t (Some (record { at = s; len = e -ℤ s })) None)
proper_by a m b n false s e p q h i j = tt
proper_by a m b n true s e p q h i j =
    let k : s <ℤ e = grind (arith, ints) in (
      record {
        from_low = omega (arith, ints, clamps);
        from_high = omega (arith, ints, clamps);
        length_low = omega (arith, ints, clamps);
        length_high = omega (arith, ints, clamps);
      },
      omega (arith, ints, clamps),
    )

pub proper : (a m b n : ℤ) → IsSpan a m → IsSpan b n → Proper (common_span a m b n)
unfolding common_span
proper a m b n i j = proper_by a m b n (int_lt (int_max a b) (int_min (a +ℤ m) (b +ℤ n))) (int_max a b) (int_min (a +ℤ m) (b +ℤ n)) refl refl refl i j

-- a span of no numbers
pub within_none : (p : ℤ) → within (pos 0) (pos 0) p ≡ false
within_none p = same_test _ _ (λ h. let i = inside _ _ _ h in absurd (omega (arith, ints))) (λ h. cc)

pub and_false : (b : Bool) → b && false ≡ false
and_false true = refl
and_false false = refl

-- what the rect of two spans covers
pub covers_spans : (o q : Option Span) (x y : ℤ) → covers (rect_of_spans o q) x y ≡ holds o x && holds q y
covers_spans (Some s) (Some t) x y = refl
covers_spans (Some s) None x y = rw (within_none x, and_false) refl
covers_spans None q x y = rw (within_none x) refl

interchange : (a b c d : Bool) → (a && b) && (c && d) ≡ (a && c) && (b && d)
interchange true true c d = refl
interchange true false true d = refl
interchange true false false d = refl
interchange false b true d = refl
interchange false b false d = refl

-- the common part covers what both cover
pub common_points : (r s : Rect) (x y : ℤ) → covers (common r s) x y ≡ covers r x y && covers s x y
common_points r s x y =
    covers_spans (common_span r.x r.w s.x s.w) (common_span r.y r.h s.y s.h) x y
    ∙ rw (shared r.x r.w s.x s.w x, shared r.y r.h s.y s.h y) (interchange (within r.x r.w x) (within s.x s.w x) (within r.y r.h y) (within s.y s.h y))

nothing_sound : IsSound empty_rect
nothing_sound = record {
  across = record { from_low = omega (arith, ints); from_high = omega (arith, ints); length_low = omega (arith, ints); length_high = omega (arith, ints) };
  down = record { from_low = omega (arith, ints); from_high = omega (arith, ints); length_low = omega (arith, ints); length_high = omega (arith, ints) };
}

pub sound_spans : (o q : Option Span) → Proper o → Proper q → IsSound (rect_of_spans o q)
sound_spans (Some s) (Some t) i j = record { across = i.0; down = j.0 }
sound_spans (Some s) None i j = nothing_sound
sound_spans None q i j = nothing_sound

pub common_sound : (r s : Rect) → IsSound r → IsSound s → IsSound (common r s)
common_sound r s i j = sound_spans _ _ (proper r.x r.w s.x s.w i.across j.across) (proper r.y r.h s.y s.h i.down j.down)

-- the first number of a span that has one
pub first_holds : (at len : ℤ) → pos 0 <ℤ len → within at len at ≡ true
first_holds at len h = is_within_of at len at (record { low = omega (arith, ints); high = omega (arith, ints) })

pub none_spans : (o q : Option Span) → Proper o → Proper q
    → ((x y : ℤ) → holds o x && holds q y ≡ true → ⊥) → rect_of_spans o q ≡ empty_rect
none_spans (Some s) (Some t) i j f = absurd (f s.at t.at (both_of _ _ (first_holds s.at s.len i.1) (first_holds t.at t.len j.1)))
none_spans (Some s) None i j f = refl
none_spans None q i j f = refl

-- where no point is shared the common part is `empty_rect`
pub common_none : (r s : Rect) → IsSound r → IsSound s → (Meet r s → ⊥) → common r s ≡ empty_rect
common_none r s i j f =
    none_spans (common_span r.x r.w s.x s.w) (common_span r.y r.h s.y s.h)
    (proper r.x r.w s.x s.w i.across j.across) (proper r.y r.h s.y s.h i.down j.down)
    (λ x y h.
    let e : covers r x y && covers s x y ≡ true =
    sym (common_points r s x y) ∙ (covers_spans (common_span r.x r.w s.x s.w) (common_span r.y r.h s.y s.h) x y ∙ h) in
    let k = both _ _ e in f (x, y, k.0, k.1))
