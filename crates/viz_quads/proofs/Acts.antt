-- Quads that act as others.
use Rattle.std.proofs.Common.{ℕ, ℤ, pos, ◌≡◌, ◌⊎◌, inl, inr, ◌+ℤ◌, ◌-ℤ◌, ◌<◌, ◌≤ℤ◌, ◌<ℤ◌, int_lt, Bool, true, false, cond, ◌&&◌, ◌||◌, Option, Some, None, ◌+◌, ◌-◌, length, take, append_assoc, List, [], ◌∷◌, ◌++◌, All, refl, ap, sym, ◌∙◌, subst, arith, negsuc}
use Rattle.std.specs.Prelude.{IfSome}
use Rattle.std.proofs.lemmas.Int.{ints}
use Rattle.std.proofs.lemmas.List.{map-append}
use Rattle.std.proofs.lemmas.List.Elements.{All-nil, All-cons, All-append, All-head, All-tail}
use Rattle.geom.specs.declared.rect.Point.{Point}
use Rattle.geom.specs.declared.rect.Rect.{Rect}
use Rattle.geom.specs.Covers.{covers, within}
use Rattle.geom.proofs.Spans.{Inside, inside, is_within_of, both, same_test}
use Rattle.pixel.specs.Colours.{Parts, blend}
use Rattle.page_display_list.specs.Bitmaps.{near}
use Rattle.page_display_list.specs.Content.{content}
use Rattle.tile_raster.specs.Images.{Image, IsOneColour}
use Rattle.viz_scene.specs.declared.quad.Quad.{Quad}
use Rattle.viz_scene.specs.Views.{QuadView, tiled, plain, quad_view, quads_view}
use Rattle.viz_scene.specs.Pixels.{placed_pixel, quads_over}
use Rattle.viz_scene.specs.Sound.{IsIn, IsTaken, QuadFits}
use Rattle.viz_scene.proofs.Steps.{quads_append}
use Rattle.viz_quads.specs.inner.Joins.{ActAs, IsBeside, IsBelow, AreOne}
use Rattle.viz_quads.proofs.Lists.{all_front, all_back}

-- ---- any quads

pub act_same : (qs : List QuadView) → ActAs qs qs
act_same qs = record { fit = λ w h i all. all; shows = λ w h i all passes x y below. refl }

pub act_through : (ps qs rs : List QuadView) → ActAs ps qs → ActAs qs rs → ActAs ps rs
act_through ps qs rs a b = record {
  fit = λ w h i all. a.fit w h i (b.fit w h i all);
  shows = λ w h i all passes x y below. a.shows w h i (b.fit w h i all) passes x y below ∙ b.shows w h i all passes x y below;
}

pub act_behind : (rs qs ss ps : List QuadView) → ActAs rs qs → ActAs ss ps → ActAs (rs ++ ss) (qs ++ ps)
act_behind rs qs ss ps a b = record {
  fit = λ w h i all. All-append (QuadFits w h i) rs ss (a.fit w h i (all_front (QuadFits w h i) qs ps all)) (b.fit w h i (all_back (QuadFits w h i) qs ps all));
  shows = λ w h i all passes x y below.
      quads_append passes x y below rs ss
      ∙ ap (λ (c : Parts). quads_over passes x y c ss) (a.shows w h i (all_front (QuadFits w h i) qs ps all) passes x y below)
      ∙ b.shows w h i (all_back (QuadFits w h i) qs ps all) passes x y (quads_over passes x y below qs)
      ∙ sym (quads_append passes x y below qs ps);
}

-- a quad that acts as the last of some quads and one after them
pub act_last : (quads front : List Quad) (last quad : Quad) (union : Option Quad) → quads ≡ front ++ last ∷ [] → length front + 1 ≡ length quads → IfSome union (λ u. ActAs (quad_view u ∷ []) (quad_view last ∷ quad_view quad ∷ []))
    → IfSome union (λ u. ActAs (quads_view (take (length quads - 1) quads) ++ quad_view u ∷ []) (quads_view quads ++ quad_view quad ∷ []))
act_last quads front last quad None e n a = tt
act_last quads front last quad (Some u) e n a =
    let count : length quads - 1 ≡ length front = omega arith in
    let fewer : take (length quads - 1) quads ≡ front = ap (take (length quads - 1)) e ∙ ap (λ (k : ℕ). take k (front ++ last ∷ [])) count ∙ in_front front (last ∷ []) in
    let all : quads_view quads ++ quad_view quad ∷ [] ≡ quads_view front ++ (quad_view last ∷ quad_view quad ∷ []) =
    ap (λ (qs : List Quad). quads_view qs ++ quad_view quad ∷ []) e
    ∙ ap (λ (qs : List QuadView). qs ++ quad_view quad ∷ []) (map-append quad_view front (last ∷ []))
    ∙ append_assoc (quads_view front) (quad_view last ∷ []) (quad_view quad ∷ []) in
    subst (λ (qs : List Quad). ActAs (quads_view qs ++ quad_view u ∷ []) (quads_view quads ++ quad_view quad ∷ [])) (sym fewer)
    (subst (λ (qs : List QuadView). ActAs (quads_view front ++ quad_view u ∷ []) qs) (sym all)
    (act_behind (quads_view front) (quads_view front) (quad_view u ∷ []) (quad_view last ∷ quad_view quad ∷ []) (act_same (quads_view front)) a))
  where
    in_front : (xs ys : List Quad) → take (length xs) (xs ++ ys) ≡ xs
    in_front [] ys = refl
    in_front (x ∷ xs) ys = ap (λ (zs : List Quad). x ∷ zs) (in_front xs ys)

-- ---- two spans of which the second begins where the first ends

either : (s t : Bool) → (s || t) ≡ true → (s ≡ true) ⊎ (t ≡ true)
either true t h = inl refl
either false t h = inr h

or_first : (s t : Bool) → s ≡ true → (s || t) ≡ true
or_first true t h = refl
or_first false t h = absurd (cc)

or_second : (s t : Bool) → t ≡ true → (s || t) ≡ true
or_second true t h = refl
or_second false t h = h

before_or_not : (a b : ℤ) → (a <ℤ b) ⊎ (b ≤ℤ a)
before_or_not a b = by_test (int_lt a b) refl
  where
    by_test : (t : Bool) → int_lt a b ≡ t → (a <ℤ b) ⊎ (b ≤ℤ a)
    by_test true e = inl (grind (arith, ints))
    by_test false e = inr (grind (arith, ints))

in_either : (a m b n p : ℤ) → b ≡ a +ℤ m → pos 0 ≤ℤ m → pos 0 ≤ℤ n → within a (m +ℤ n) p ≡ (within a m p || within b n p)
in_either a m b n p e low next = same_test (within a (m +ℤ n) p) (within a m p || within b n p) (λ h. forth (inside a (m +ℤ n) p h) (before_or_not p b)) (λ h. back (either (within a m p) (within b n p) h))
  where
    forth : Inside a (m +ℤ n) p → (p <ℤ b) ⊎ (b ≤ℤ p) → (within a m p || within b n p) ≡ true
    forth i (inl lt) = or_first (within a m p) (within b n p) (is_within_of a m p (record { low = i.low; high = omega (arith, ints) }))
    forth i (inr le) = let high = i.high in or_second (within a m p) (within b n p) (is_within_of b n p (record { low = le; high = omega (arith, ints) }))

    back : (within a m p ≡ true) ⊎ (within b n p ≡ true) → within a (m +ℤ n) p ≡ true
    back (inl h) = let i = inside a m p h in is_within_of a (m +ℤ n) p (record { low = i.low; high = omega (arith, ints) })
    back (inr h) = let i = inside b n p h in is_within_of a (m +ℤ n) p (record { low = omega (arith, ints); high = omega (arith, ints) })

not_in_both : (a m b n p : ℤ) → b ≡ a +ℤ m → within a m p ≡ true → within b n p ≡ true → ⊥
not_in_both a m b n p e h k = let i = inside a m p h in let j = inside b n p k in omega (arith, ints)

-- ---- rects that are one

-- a rect covers the points of two others, which share none
record Covered (r s t : Rect) : Type 0 where
  points : (x y : ℤ) → covers t x y ≡ (covers r x y || covers s x y)
  apart : (x y : ℤ) → covers r x y ≡ true → covers s x y ≡ true → ⊥

in_rows : (s t u : Bool) → ((s || t) && u) ≡ ((s && u) || (t && u))
in_rows true true true = refl
in_rows true false true = refl
in_rows true true false = refl
in_rows true false false = refl
in_rows false t u = refl

in_columns : (s t u : Bool) → (u && (s || t)) ≡ ((u && s) || (u && t))
in_columns s t true = refl
in_columns s t false = refl

covered_beside : (r s t : Rect) → IsBeside r s t → pos 0 ≤ℤ r.w → pos 0 ≤ℤ s.w → Covered r s t
covered_beside r s t j low next = record {
  points = λ x y.
      ap (λ (u : Rect). covers u x y) j.whole
      ∙ ap (λ (b : Bool). b && within r.y r.h y) (in_either r.x r.w s.x s.w x j.next low next)
      ∙ in_rows (within r.x r.w x) (within s.x s.w x) (within r.y r.h y)
      ∙ ap (λ (z : ℤ). covers r x y || (within s.x s.w x && within z r.h y)) (sym j.rows.0)
      ∙ ap (λ (z : ℤ). covers r x y || (within s.x s.w x && within s.y z y)) (sym j.rows.1);
  apart = λ x y h k. not_in_both r.x r.w s.x s.w x j.next (both _ _ h).0 (both _ _ k).0;
}

covered_below : (r s t : Rect) → IsBelow r s t → pos 0 ≤ℤ r.h → pos 0 ≤ℤ s.h → Covered r s t
covered_below r s t j low next = record {
  points = λ x y.
      ap (λ (u : Rect). covers u x y) j.whole
      ∙ ap (λ (b : Bool). within r.x r.w x && b) (in_either r.y r.h s.y s.h y j.next low next)
      ∙ in_columns (within r.y r.h y) (within s.y s.h y) (within r.x r.w x)
      ∙ ap (λ (z : ℤ). covers r x y || (within z r.w x && within s.y s.h y)) (sym j.columns.0)
      ∙ ap (λ (z : ℤ). covers r x y || (within s.x z x && within s.y s.h y)) (sym j.columns.1);
  apart = λ x y h k. not_in_both r.y r.h s.y s.h y j.next (both _ _ h).1 (both _ _ k).1;
}

covered_one : (r s t : Rect) (w h : ℕ) → AreOne r s t → IsIn w h r → IsIn w h s → Covered r s t
covered_one r s t w h (inl j) i k = covered_beside r s t j i.width k.width
covered_one r s t w h (inr j) i k = covered_below r s t j i.height k.height

-- where two rects lie on a screen the one rect does
one_in : (r s t : Rect) (w h : ℕ) → AreOne r s t → IsIn w h r → IsIn w h s → IsIn w h t
one_in r s t w h (inl j) i k =
    let next = j.next in
    subst (IsIn w h) (sym j.whole)
    (record { left = i.left; top = i.top; width = let a = i.width in let b = k.width in omega (arith, ints); height = i.height; right = let b = k.right in omega (arith, ints); bottom = i.bottom })
one_in r s t w h (inr j) i k =
    let next = j.next in
    subst (IsIn w h) (sym j.whole)
    (record { left = i.left; top = i.top; width = i.width; height = let a = i.height in let b = k.height in omega (arith, ints); right = i.right; bottom = let b = k.bottom in omega (arith, ints) })

laid_once : (s t u : Bool) (below c : Parts) → u ≡ (s || t) → (s ≡ true → t ≡ true → ⊥) → cond u (blend below c) below ≡ cond t (blend (cond s (blend below c) below) c) (cond s (blend below c) below)
laid_once true true u below c e apart = absurd (apart refl refl)
laid_once true false u below c e apart = ap (λ (b : Bool). cond b (blend below c) below) e
laid_once false true u below c e apart = ap (λ (b : Bool). cond b (blend below c) below) e
laid_once false false u below c e apart = ap (λ (b : Bool). cond b (blend below c) below) e

-- one rect of a colour acts as two of that colour
pub act_joined : (r s t : Rect) (c d : Parts) → AreOne r s t → c ≡ d → ActAs (plain t c ∷ []) (plain r c ∷ plain s d ∷ [])
act_joined r s t c d one same = record {
  fit = λ w h i all. let (a, b) = in_two w h i all in All-cons (QuadFits w h i) (plain t c) [] (one_in r s t w h one a b) (All-nil (QuadFits w h i));
  shows = λ w h i all passes x y below.
      let (a, b) = in_two w h i all in
      let is = covered_one r s t w h one a b in
      laid_once (covers r x y) (covers s x y) (covers t x y) below c (is.points x y) (is.apart x y)
      ∙ ap (λ (e : Parts). cond (covers s x y) (blend (cond (covers r x y) (blend below c) below) e) (cond (covers r x y) (blend below c) below)) same;
}
  where
    in_two : (w h i : ℕ) → All (QuadFits w h i) (plain r c ∷ plain s d ∷ []) → IsIn w h r × IsIn w h s
    in_two w h i all = (All-head (QuadFits w h i) (plain r c) (plain s d ∷ []) all, All-head (QuadFits w h i) (plain s d) [] (All-tail (QuadFits w h i) (plain r c) (plain s d ∷ []) all))

-- ---- an image of one colour

near_is : (z : ℤ) → pos 0 ≤ℤ z → pos (near z) ≡ z
near_is (pos n) h = refl
near_is (negsuc n) h = absurd (omega (arith, ints))

-- a number of a span, counted from its start
counted : (at len p : ℤ) → Inside at len p → (p ≡ at +ℤ pos (near (p -ℤ at))) × (near (p -ℤ at) < near len)
counted at len p i =
    let l = i.low in
    let k = i.high in
    let f : pos (near (p -ℤ at)) ≡ p -ℤ at = near_is (p -ℤ at) (omega (arith, ints)) in
    let g : pos (near len) ≡ len = near_is len (omega (arith, ints)) in (omega (arith, ints), omega (arith, ints))

one_content : (image : Image) (c : Parts) (x y : ℤ) → IsOneColour image.list image.rect c → Inside image.rect.x image.rect.w x → Inside image.rect.y image.rect.h y → content image.list x y ≡ c
one_content image c x y one across down =
    let p = counted image.rect.x image.rect.w x across in
    let q = counted image.rect.y image.rect.h y down in
    ap (λ (z : ℤ). content image.list z y) p.0
    ∙ ap (content image.list (image.rect.x +ℤ pos (near (x -ℤ image.rect.x)))) q.0
    ∙ one (near (x -ℤ image.rect.x)) (near (y -ℤ image.rect.y)) p.1 q.1

taken_in : (start len from at n p : ℤ) → pos 0 ≤ℤ from → (from +ℤ n) ≤ℤ len → Inside at n p → Inside start len (start +ℤ (from +ℤ (p -ℤ at)))
taken_in start len from at n p low high i = let l = i.low in let k = i.high in record { low = omega (arith, ints); high = omega (arith, ints) }

one_placed : (image : Image) (at : Rect) (from : Point) (c : Parts) (x y : ℤ) → IsOneColour image.list image.rect c → IsTaken image at from → covers at x y ≡ true → placed_pixel image at from x y ≡ c
one_placed image at from c x y one t h =
    let k = both _ _ h in
    one_content image c (image.rect.x +ℤ (from.x +ℤ (x -ℤ at.x))) (image.rect.y +ℤ (from.y +ℤ (y -ℤ at.y))) one
    (taken_in image.rect.x image.rect.w from.x at.x at.w x t.left t.right (inside at.x at.w x k.0))
    (taken_in image.rect.y image.rect.h from.y at.y at.h y t.top t.bottom (inside at.y at.h y k.1))

-- a plain rect acts as a part of an image of its colour
pub act_plain : (image : Image) (at : Rect) (from : Point) (c : Parts) → IsOneColour image.list image.rect c → ActAs (plain at c ∷ []) (tiled image at from ∷ [])
act_plain image at from c one = record {
  fit = λ w h i all. All-cons (QuadFits w h i) (plain at c) [] (All-head (QuadFits w h i) (tiled image at from) [] all).0 (All-nil (QuadFits w h i));
  shows = λ w h i all passes x y below. where_covered (All-head (QuadFits w h i) (tiled image at from) [] all).1 x y below (covers at x y) refl;
}
  where
    where_covered : IsTaken image at from → (x y : ℤ) (below : Parts) (s : Bool) → covers at x y ≡ s → cond s (blend below c) below ≡ cond s (blend below (placed_pixel image at from x y)) below
    where_covered t x y below true e = ap (blend below) (sym (one_placed image at from c x y one t e))
    where_covered t x y below false e = refl
