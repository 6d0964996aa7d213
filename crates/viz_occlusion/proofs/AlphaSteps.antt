-- The alphas of a part of an image.
use Rattle.std.proofs.Common.{◌≡◌, ◌⊎◌, inl, inr, List, ℕ, ◌+◌, ◌-◌, ◌<◌, ◌≤◌, ℤ, pos, negsuc, ◌+ℤ◌, ◌-ℤ◌, ◌≤ℤ◌, Bool, true, false, IsTrue, refl, sym, ◌∙◌, ap, arith}
use Rattle.std.proofs.lemmas.Bool.{cases_lt}
use Rattle.std.proofs.lemmas.Int.{ints}
use Rattle.geom.specs.declared.Rect.{Rect}
use Rattle.geom.specs.declared.Point.{Point}
use Rattle.geom.specs.Covers.{covers, within}
use Rattle.geom.proofs.Spans.{inside, is_within_of, both, both_of}
use Rattle.pixel.specs.Colours.{Parts}
use Rattle.pixel.specs.Rows.{pixel}
use Rattle.page_display_list.specs.Content.{content}
use Rattle.page_display_list.specs.Bitmaps.{near}
use Rattle.tile_raster.specs.Images.{Image, IsOneColour, AreSameRows, list_colour}
use Rattle.viz_scene.specs.Views.{tiled}
use Rattle.viz_scene.specs.Pixels.{placed_pixel}
use Rattle.viz_scene.specs.Opaque.{IsOpaque}
use Rattle.viz_scene.specs.Sound.{IsTaken}
use Rattle.viz_scene.specs.Areas.{IsOnScreen}
use Rattle.viz_occlusion.specs.declared.opaque.ImagePart.{ImagePart}
use Rattle.viz_occlusion.specs.inner.Cover.{IsOpaquePart, HasOtherAlpha, HidesNothing}

-- a count that is not negative
near_is : (z : ℤ) → pos 0 ≤ℤ z → pos (near z) ≡ z
near_is (pos n) h = refl
near_is (negsuc n) h = absurd (omega (arith, ints))

-- a place of the image, on one axis
place_is : (start from at point : ℤ) → pos 0 ≤ℤ from → at ≤ℤ point
    → start +ℤ (from +ℤ (point -ℤ at)) ≡ start +ℤ pos (near from + near (point -ℤ at))
place_is start from at point low le =
    let f : pos (near from) ≡ from = near_is from low in
    let g : pos (near (point -ℤ at)) ≡ point -ℤ at = near_is (point -ℤ at) (omega (arith, ints)) in
    omega (arith, ints)

place_below : (at len point : ℤ) → within at len point ≡ true → near (point -ℤ at) < near len
place_below at len point h =
    let i = inside at len point h in
    let f : pos (near len) ≡ len = near_is len (omega (arith, ints)) in
    let g : pos (near (point -ℤ at)) ≡ point -ℤ at = near_is (point -ℤ at) (omega (arith, ints)) in
    omega (arith, ints)

place_inside : (from len end : ℤ) (k : ℕ) → pos 0 ≤ℤ from → pos 0 ≤ℤ len → (from +ℤ len) ≤ℤ end → k < near len → near from + k < near end
place_inside from len end k low size fit lt =
    let f : pos (near from) ≡ from = near_is from low in
    let g : pos (near len) ≡ len = near_is len size in
    let h : pos (near end) ≡ end = near_is end (omega (arith, ints)) in
    omega (arith, ints)

-- the pixel that lies on a point
pub placed_shown : (image : Image) (at : Rect) (from : Point) (x y : ℤ) → IsTaken image at from → covers at x y ≡ true
    → placed_pixel image at from x y ≡ list_colour image.list image.rect (near from.x + near (x -ℤ at.x)) (near from.y + near (y -ℤ at.y))
placed_shown image at from x y t h =
    let k = both _ _ h in
    let across = inside at.x at.w x k.0 in
    let down = inside at.y at.h y k.1 in
    ap (λ (z : ℤ). content image.list z (image.rect.y +ℤ (from.y +ℤ (y -ℤ at.y)))) (place_is image.rect.x from.x at.x x t.left across.low)
    ∙ ap (content image.list (image.rect.x +ℤ pos (near from.x + near (x -ℤ at.x)))) (place_is image.rect.y from.y at.y y t.top down.low)

-- the part that a rect shows
pub record IsPartOf (at : Rect) (from : Point) (part : ImagePart) : Type 0 where
  pub left : part.left ≡ near from.x
  pub top : part.top ≡ near from.y
  pub w : part.w ≡ near at.w
  pub h : part.h ≡ near at.h

pub opaque_tile : (image : Image) (at : Rect) (from : Point) (part : ImagePart) → IsTaken image at from → IsPartOf at from part → IsOpaquePart image part
    → IsOpaque (tiled image at from)
opaque_tile image at from part t is each x y h =
    let k = both _ _ h in
    let left = is.left in
    let top = is.top in
    let wide = is.w in
    let tall = is.h in
    let column : near (x -ℤ at.x) < part.w = let lt = place_below at.x at.w x k.0 in omega arith in
    let row : near (y -ℤ at.y) < part.h = let lt = place_below at.y at.h y k.1 in omega arith in
    ap (λ (c : Parts). c.a) (placed_shown image at from x y t h)
    ∙ ap (λ (n : ℕ). (list_colour image.list image.rect (n + near (x -ℤ at.x)) (near from.y + near (y -ℤ at.y))).a) (sym left)
    ∙ ap (λ (n : ℕ). (list_colour image.list image.rect (part.left + near (x -ℤ at.x)) (n + near (y -ℤ at.y))).a) (sym top)
    ∙ each (near (x -ℤ at.x)) (near (y -ℤ at.y)) column row

-- a point of a rect, counted from its corner
point_in : (at len : ℤ) (k : ℕ) → pos 0 ≤ℤ len → k < near len → within at len (at +ℤ pos k) ≡ true
point_in at len k low lt =
    let f : pos (near len) ≡ len = near_is len low in
    is_within_of at len (at +ℤ pos k) (record { low = omega (arith, ints); high = omega (arith, ints) })

back : (at : ℤ) (k : ℕ) → near ((at +ℤ pos k) -ℤ at) ≡ k
back at k = ap near (same at k)
  where
    same : (at : ℤ) (k : ℕ) → (at +ℤ pos k) -ℤ at ≡ pos k
    same at k = omega (arith, ints)

pub other_tile : (image : Image) (at : Rect) (from : Point) (part : ImagePart) → IsOnScreen at → IsTaken image at from → IsPartOf at from part
    → HasOtherAlpha image part → HidesNothing (tiled image at from)
other_tile image at from part on t is other x y opaque lies =
    let left = is.left in
    let top = is.top in
    let wide = is.w in
    let tall = is.h in
    let across = other.across in
    let down = other.down in
    let column : other.x < near at.w = omega arith in
    let row : other.y < near at.h = omega arith in
    let px = at.x +ℤ pos other.x in
    let py = at.y +ℤ pos other.y in
    let there = both_of _ _ (point_in at.x at.w other.x on.width column) (point_in at.y at.h other.y on.height row) in
    other.other
    (ap (λ (n : ℕ). (list_colour image.list image.rect (n + other.x) (part.top + other.y)).a) left
    ∙ ap (λ (n : ℕ). (list_colour image.list image.rect (near from.x + other.x) (n + other.y)).a) top
    ∙ ap (λ (n : ℕ). (list_colour image.list image.rect (near from.x + n) (near from.y + other.y)).a) (sym (back at.x other.x))
    ∙ ap (λ (n : ℕ). (list_colour image.list image.rect (near from.x + near (px -ℤ at.x)) (near from.y + n)).a) (sym (back at.y other.y))
    ∙ ap (λ (c : Parts). c.a) (sym (placed_shown image at from px py t there))
    ∙ opaque px py there)

-- an image of one colour
pub solid_placed : (image : Image) (at : Rect) (from : Point) (c : Parts) (x y : ℤ) → IsOnScreen at → IsTaken image at from
    → IsOneColour image.list image.rect c → covers at x y ≡ true → placed_pixel image at from x y ≡ c
solid_placed image at from c x y on t one h =
    let k = both _ _ h in
    placed_shown image at from x y t h
    ∙ one (near from.x + near (x -ℤ at.x)) (near from.y + near (y -ℤ at.y))
    (place_inside from.x at.w image.rect.w (near (x -ℤ at.x)) t.left on.width t.right (place_below at.x at.w x k.0))
    (place_inside from.y at.h image.rect.h (near (y -ℤ at.y)) t.top on.height t.bottom (place_below at.y at.h y k.1))

pub opaque_solid : (image : Image) (at : Rect) (from : Point) (c : Parts) → IsOnScreen at → IsTaken image at from
    → IsOneColour image.list image.rect c → c.a ≡ 255 → IsOpaque (tiled image at from)
opaque_solid image at from c on t one e x y h = ap (λ (p : Parts). p.a) (solid_placed image at from c x y on t one h) ∙ e

pub other_solid : (image : Image) (at : Rect) (from : Point) (c : Parts) → IsOnScreen at → IsTaken image at from
    → IsOneColour image.list image.rect c → (c.a ≡ 255 → ⊥) → HidesNothing (tiled image at from)
other_solid image at from c on t one other x y opaque lies =
    other (ap (λ (p : Parts). p.a) (sym (solid_placed image at from c x y on t one lies)) ∙ opaque x y lies)

-- a test that fails does not hold
pub never : (b : Bool) → b ≡ false → IsTrue b → ⊥
never true f t = cc
never false f t = cc

-- a pixel of a row of the part that has another alpha
pub other_at : (image : Image) (part : ImagePart) (bytes : List ℕ) (y k : ℕ) → y < part.h → part.left ≤ k → k < part.left + part.w
    → part.left + part.w ≤ near image.rect.w
    → ((x : ℕ) → x < near image.rect.w → pixel bytes x ≡ list_colour image.list image.rect x (part.top + y))
    → ((pixel bytes k).a ≡ 255 → ⊥) → HasOtherAlpha image part
other_at image part bytes y k down le lt fit pixels other =
    let column : k ≡ part.left + (k - part.left) = omega arith in
    record {
      x = k - part.left;
      y = y;
      across = omega arith;
      down = down;
      other = λ e.
          other
          (ap (λ (c : Parts). c.a) (pixels k (omega arith))
          ∙ ap (λ (n : ℕ). (list_colour image.list image.rect n (part.top + y)).a) column
          ∙ e);
    }

-- rows that are equal to an opaque one
pub rows_more : (image : Image) (part : ImagePart) (bytes : List ℕ) (y n : ℕ) → part.left + part.w ≤ near image.rect.w
    → ((x : ℕ) → x < near image.rect.w → pixel bytes x ≡ list_colour image.list image.rect x (part.top + y))
    → ((k : ℕ) → part.left ≤ k → k < part.left + part.w → (pixel bytes k).a ≡ 255)
    → ((k : ℕ) → k < n → AreSameRows image.list image.rect (part.top + y) (part.top + y + k))
    → ((x j : ℕ) → x < part.w → j < y → (list_colour image.list image.rect (part.left + x) (part.top + j)).a ≡ 255)
    → (x j : ℕ) → x < part.w → j < y + n → (list_colour image.list image.rect (part.left + x) (part.top + j)).a ≡ 255
rows_more image part bytes y n fit pixels alphas same above x j across down = by_side (cases_lt j y)
  where
    by_side : (j < y) ⊎ (y ≤ j) → (list_colour image.list image.rect (part.left + x) (part.top + j)).a ≡ 255
    by_side (inl before) = above x j across before
    by_side (inr behind) =
        let row : part.top + j ≡ part.top + y + (j - y) = omega arith in
        let wide : part.left + x < near image.rect.w = omega arith in
        ap (λ (m : ℕ). (list_colour image.list image.rect (part.left + x) m).a) row
        ∙ ap (λ (c : Parts). c.a) (sym (same (j - y) (omega arith) (part.left + x) wide))
        ∙ ap (λ (c : Parts). c.a) (sym (pixels (part.left + x) wide))
        ∙ alphas (part.left + x) (omega arith) (omega arith)
