-- The part of an area that quads draw in.
use Rattle.std.proofs.Common.{◌≡◌, ℕ, ◌+◌, ◌-◌, ◌<◌, ◌≤◌, ℤ, pos, negsuc, ◌+ℤ◌, ◌-ℤ◌, Bool, true, false, ◌&&◌, cond, refl, ◌∙◌, ap, arith}
use Rattle.std.proofs.lemmas.Int.{ints}
use Rattle.std.proofs.lemmas.Bool.Decides.{nat_tests}
use Rattle.geom.specs.declared.Rect.{Rect}
use Rattle.geom.specs.Covers.{covers, within as in_span}
use Rattle.geom.proofs.Spans.{Inside, inside, is_within_of, same_test, both, both_of}
use Rattle.pixel.specs.Colours.{Parts}
use Rattle.pixel.specs.Surfaces.{holds}
use Rattle.pixel.specs.declared.Area.{Area}
use Rattle.page_display_list.specs.Bitmaps.{near}
use Rattle.viz_render.specs.declared.hull.Hull.{Hull}
use Rattle.viz_render.specs.inner.Hulls.{between, in_hull}
use Rattle.viz_render.proofs.Tiles.{near_is}

-- a test that cannot hold fails
pub fails : (t : Bool) → (t ≡ true → ⊥) → t ≡ false
fails true none = absurd (none refl)
fails false none = refl

pub differs : (t : Bool) → t ≡ false → t ≡ true → ⊥
differs true off on = cc
differs false off on = cc

pub is_between : (start end n : ℕ) → start ≤ n → n < end → between start end n ≡ true
unfolding between
is_between start end n low high = grind (arith, nat_tests)

pub from_start : (start end n : ℕ) → between start end n ≡ true → start ≤ n
unfolding between
from_start start end n h = grind (arith, nat_tests)

pub before_end : (start end n : ℕ) → between start end n ≡ true → n < end
unfolding between
before_end start end n h = grind (arith, nat_tests)

-- what lies in a hull or an area lies in the hull of both
hull_grows : (old new : Hull) (x y : ℕ) → new.left ≤ old.left → new.top ≤ old.top → old.right ≤ new.right → old.bottom ≤ new.bottom
    → in_hull old x y ≡ true → in_hull new x y ≡ true
hull_grows old new x y left top right bottom h =
    let k = both _ _ h in
    let a = from_start old.left old.right x k.0 in
    let b = before_end old.left old.right x k.0 in
    let c = from_start old.top old.bottom y k.1 in
    let d = before_end old.top old.bottom y k.1 in
    both_of _ _ (is_between new.left new.right x (omega arith) (omega arith)) (is_between new.top new.bottom y (omega arith) (omega arith))

pub area_left : (at : Area) (x y : ℕ) → holds at x y ≡ true → at.x ≤ x
area_left at x y h = grind (arith, nat_tests)

pub area_right : (at : Area) (x y : ℕ) → holds at x y ≡ true → x < at.x + at.w
area_right at x y h = grind (arith, nat_tests)

area_top : (at : Area) (x y : ℕ) → holds at x y ≡ true → at.y ≤ y
area_top at x y h = grind (arith, nat_tests)

pub area_bottom : (at : Area) (x y : ℕ) → holds at x y ≡ true → y < at.y + at.h
area_bottom at x y h = grind (arith, nat_tests)

area_taken : (at : Area) (new : Hull) (x y : ℕ) → new.left ≤ at.x → new.top ≤ at.y → at.x + at.w ≤ new.right → at.y + at.h ≤ new.bottom
    → holds at x y ≡ true → in_hull new x y ≡ true
area_taken at new x y left top right bottom h =
    let a = area_left at x y h in
    let b = area_right at x y h in
    let c = area_top at x y h in
    let d = area_bottom at x y h in
    both_of _ _ (is_between new.left new.right x (omega arith) (omega arith)) (is_between new.top new.bottom y (omega arith) (omega arith))

pub outside_both : (old new : Hull) (at : Area) (x y : ℕ) → new.left ≤ old.left → new.top ≤ old.top → old.right ≤ new.right → old.bottom ≤ new.bottom
    → new.left ≤ at.x → new.top ≤ at.y → at.x + at.w ≤ new.right → at.y + at.h ≤ new.bottom
    → in_hull new x y ≡ false → (in_hull old x y ≡ false) × (holds at x y ≡ false)
outside_both old new at x y left top right bottom at_left at_top at_right at_bottom off = (
  fails _ (λ on. differs _ off (hull_grows old new x y left top right bottom on)),
  fails _ (λ on. differs _ off (area_taken at new x y at_left at_top at_right at_bottom on)),
)

-- a part of a span
pub part_points : (at start : ℤ) (from end first n : ℕ) → first ≤ from → first ≤ end → (from ≤ end → first ≡ from) → start ≡ at +ℤ pos first
    → in_span start (pos (end - from)) (at +ℤ pos n) ≡ between from end n
part_points at start from end first n low high same is =
    same_test _ _
    (λ h. let i = inside start (pos (end - from)) (at +ℤ pos n) h in
    let some : from < end = some_left at start from end first n low high is i in
    let e = same (omega arith) in
    is_between from end n (omega (arith, ints)) (omega (arith, ints)))
    (λ h. let a = from_start from end n h in
    let b = before_end from end n h in
    let e = same (omega arith) in
    is_within_of start (pos (end - from)) (at +ℤ pos n) (record { low = omega (arith, ints); high = omega (arith, ints) }))
  where
    some_left : (at start : ℤ) (from end first n : ℕ) → first ≤ from → first ≤ end → start ≡ at +ℤ pos first
        → Inside start (pos (end - from)) (at +ℤ pos n) → from < end
    some_left at start from end first n low high is i = let l = i.low in let h = i.high in omega (arith, ints)

-- a number of a span as a place in it
pub place_in : (at len p : ℤ) → in_span at len p ≡ true → (near (p -ℤ at) < near len) × (at +ℤ pos (near (p -ℤ at)) ≡ p)
place_in at len p h =
    let i = inside at len p h in
    let low = i.low in
    let high = i.high in
    let n : pos (near (p -ℤ at)) ≡ p -ℤ at = near_is (p -ℤ at) (omega (arith, ints)) in
    let e : pos (near len) ≡ len = near_is len (omega (arith, ints)) in
    (omega (arith, ints), omega (arith, ints))

-- a place of a span as one of its numbers
pub in_place : (at len : ℤ) (n : ℕ) → n < near len → in_span at len (at +ℤ pos n) ≡ true
in_place at (pos len) n lt = is_within_of at (pos len) (at +ℤ pos n) (record { low = omega (arith, ints); high = omega (arith, ints) })
in_place at (negsuc len) n lt = absurd (omega arith)

-- a rect covers no point of a row that it has not
pub misses_row : (r : Rect) (x y : ℤ) (c below : Parts) → in_span r.y r.h y ≡ false → cond (covers r x y) c below ≡ below
misses_row r x y c below off = ap (λ (t : Bool). cond (in_span r.x r.w x && t) c below) off ∙ ap (λ (t : Bool). cond t c below) (and_false (in_span r.x r.w x))
  where
    and_false : (t : Bool) → t && false ≡ false
    and_false true = refl
    and_false false = refl
