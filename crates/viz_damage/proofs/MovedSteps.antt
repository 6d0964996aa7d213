-- Rows of an image that stands at two places, one higher than the other.
use Rattle.std.proofs.Common.{◌≡◌, ℕ, ◌+◌, ◌<◌, ◌≤◌, inl, inr, ℤ, pos, negsuc, ◌+ℤ◌, ◌-ℤ◌, ◌≤ℤ◌, ◌<ℤ◌, Bool, true, false, cond, List, [], ◌∷◌, refl, sym, ◌∙◌, ap, subst, arith}
use Rattle.std.proofs.lemmas.Int.{ints, clamps, by_lt_z}
use Rattle.std.specs.Int.{int_max, int_min}
use Rattle.geom.specs.declared.Rect.{Rect}
use Rattle.geom.specs.declared.Point.{Point}
use Rattle.geom.specs.Covers.{covers, within}
use Rattle.geom.proofs.Spans.{inside, is_within_of, both, both_of}
use Rattle.region.specs.Points.{covered}
use Rattle.pixel.specs.Colours.{Parts, blend}
use Rattle.page_display_list.specs.Content.{content}
use Rattle.page_display_list.specs.Bitmaps.{near}
use Rattle.tile_raster.specs.Images.{Image, AreSameRows, list_colour}
use Rattle.viz_scene.specs.Views.{QuadView, tiled}
use Rattle.viz_scene.specs.Pixels.{placed_pixel, quad_over}
use Rattle.viz_scene.specs.Sound.{IsTaken, IsIn, QuadFits}
use Rattle.viz_damage.specs.inner.Areas.{HoldAll}
use Rattle.viz_damage.specs.inner.Moved.{rows_of, ShareColumns, AreCommonRows, AreAlikeOutside, AreRowsAlike}
use Rattle.viz_damage.specs.inner.Alike.{AreSameImages, ActWithin, DifferWithin}
use Rattle.viz_damage.proofs.AreaSteps.{neither, neither_of}
use Rattle.viz_damage.proofs.QuadSteps.{tiles_alike}

pub near_is : (z : ℤ) → pos 0 ≤ℤ z → pos (near z) ≡ z
near_is (pos n) h = refl
near_is (negsuc n) h = absurd (omega (arith, ints))

-- no point is both inside a damage and outside of it
never : {P : Type 0} (b : Bool) → b ≡ true → b ≡ false → P
never true h k = cc
never false h k = cc

-- what a part shows at a point, as a pixel of a row of its image
row_pixel : (image : Image) (at : Rect) (from : Point) (x y : ℤ) (n : ℕ) → IsTaken image at from → within at.x at.w x ≡ true → pos n ≡ from.y +ℤ (y -ℤ at.y)
    → placed_pixel image at from x y ≡ list_colour image.list image.rect (near (from.x +ℤ (x -ℤ at.x))) n
row_pixel image at from x y n t h e =
    let i = inside at.x at.w x h in
    let low = i.low in
    let left = t.left in
    let column : pos (near (from.x +ℤ (x -ℤ at.x))) ≡ from.x +ℤ (x -ℤ at.x) = near_is (from.x +ℤ (x -ℤ at.x)) (omega (arith, ints)) in
    ap (λ (z : ℤ). content image.list (image.rect.x +ℤ z) (image.rect.y +ℤ (from.y +ℤ (y -ℤ at.y)))) (sym column)
    ∙ ap (λ (z : ℤ). content image.list (image.rect.x +ℤ pos (near (from.x +ℤ (x -ℤ at.x)))) (image.rect.y +ℤ z)) (sym e)

column_inside : (image : Image) (at : Rect) (from : Point) (x : ℤ) → IsTaken image at from → within at.x at.w x ≡ true
    → near (from.x +ℤ (x -ℤ at.x)) < near image.rect.w
column_inside image at from x t h =
    let i = inside at.x at.w x h in
    let low = i.low in
    let high = i.high in
    let left = t.left in
    let right = t.right in
    let column : pos (near (from.x +ℤ (x -ℤ at.x))) ≡ from.x +ℤ (x -ℤ at.x) = near_is (from.x +ℤ (x -ℤ at.x)) (omega (arith, ints)) in
    let wide : pos (near image.rect.w) ≡ image.rect.w = near_is image.rect.w (omega (arith, ints)) in
    omega (arith, ints)

-- rows that are equal to their partners
pub rows_same : (image : Image) (at place : Rect) (from start : Point) (damage : List Rect) (y next : ℤ) (a b rows : ℕ)
    → IsTaken image at from → IsTaken image place start → ShareColumns at from place start
    → pos a ≡ from.y +ℤ (y -ℤ at.y) → pos b ≡ start.y +ℤ (y -ℤ place.y) → next ≤ℤ (y +ℤ pos rows)
    → ((k : ℕ) → k < rows → AreSameRows image.list image.rect (a + k) (b + k))
    → AreRowsAlike damage image at from place start y next
rows_same image at place from start damage y next a b rows t u share e f fit same px py out inn =
    let c = both _ _ inn in
    let i = inside y (next -ℤ y) py c.1 in
    let low = i.low in
    let high = i.high in
    let k = near (py -ℤ y) in
    let n : pos (near (py -ℤ y)) ≡ py -ℤ y = near_is (py -ℤ y) (omega (arith, ints)) in
    let xs = share.0 in
    let ws = share.1.0 in
    let fs = share.1.1 in
    let there : within place.x place.w px ≡ true = ap (λ (z : ℤ). within z place.w px) (sym xs) ∙ ap (λ (z : ℤ). within at.x z px) (sym ws) ∙ c.0 in
    let one = row_pixel image at from px py (a + k) t c.0 (omega (arith, ints)) in
    let other = row_pixel image place start px py (b + k) u there (omega (arith, ints)) in
    let column : near (from.x +ℤ (px -ℤ at.x)) ≡ near (start.x +ℤ (px -ℤ place.x)) =
    ap (λ (z : ℤ). near (z +ℤ (px -ℤ at.x))) fs ∙ ap (λ (z : ℤ). near (start.x +ℤ (px -ℤ z))) xs in
    one
    ∙ same k (omega (arith, ints)) (near (from.x +ℤ (px -ℤ at.x))) (column_inside image at from px t c.0)
    ∙ ap (λ (x : ℕ). list_colour image.list image.rect x (b + k)) column
    ∙ sym other

-- rows that are damaged
pub rows_damaged : (image : Image) (at place : Rect) (from start : Point) (damage more : List Rect) (y next : ℤ)
    → HoldAll more (rows_of at y next ∷ damage) → AreRowsAlike more image at from place start y next
rows_damaged image at place from start damage more y next holds px py out inn =
    never (covers (rows_of at y next) px py) inn (neither (covers (rows_of at y next) px py) (covered damage px py) (holds px py out)).0

pub rest_held : (damage more before : List Rect) (r : Rect) → HoldAll more (r ∷ damage) → HoldAll damage before → HoldAll more before
rest_held damage more before r holds had x y out = had x y (neither (covers r x y) (covered damage x y) (holds x y out)).1

pub more_held : (damage more : List Rect) (r : Rect) → HoldAll more (r ∷ damage) → HoldAll more damage
more_held damage more r holds x y out = (neither (covers r x y) (covered damage x y) (holds x y out)).1

-- rows up to one, and those from there on
pub rows_more : (image : Image) (at place : Rect) (from start : Point) (damage more : List Rect) (top y next : ℤ)
    → HoldAll more damage → AreRowsAlike damage image at from place start top y → AreRowsAlike more image at from place start y next
    → AreRowsAlike more image at from place start top next
rows_more image at place from start damage more top y next held before here px py out inn =
    let c = both _ _ inn in
    let i = inside top (next -ℤ top) py c.1 in
    let low = i.low in
    let high = i.high in
    by_lt_z py y
    (λ lt. before px py (held px py out) (both_of _ _ c.0 (is_within_of top (y -ℤ top) py (record { low = omega (arith, ints); high = omega (arith, ints) }))))
    (λ le. here px py out (both_of _ _ c.0 (is_within_of y (next -ℤ y) py (record { low = omega (arith, ints); high = omega (arith, ints) }))))

pub no_rows : (image : Image) (at place : Rect) (from start : Point) (damage : List Rect) (top end : ℤ) → end ≤ℤ top
    → AreRowsAlike damage image at from place start top end
no_rows image at place from start damage top end none px py out inn =
    let i = inside top (end -ℤ top) py (both _ _ inn).1 in
    let low = i.low in
    let high = i.high in
    absurd (omega (arith, ints))

-- the bounds of the rows that two rects have
pub common_bounds : (a b : Rect) (first top end last : ℤ) → IsIn 2048 2048 a → IsIn 2048 2048 b
    → first ≡ int_min a.y b.y → top ≡ int_max a.y b.y → end ≡ int_max (int_min (a.y +ℤ a.h) (b.y +ℤ b.h)) (int_max a.y b.y)
    → last ≡ int_max (a.y +ℤ a.h) (b.y +ℤ b.h) → AreCommonRows a b first top end last
common_bounds a b first top end last one other e f g h =
    let low = one.top in
    let other_low = other.top in
    let tall = one.height in
    let other_tall = other.height in
    let high = one.bottom in
    let other_high = other.bottom in
    record {
      low = omega (arith, ints, clamps);
      above = omega (arith, ints, clamps);
      order = omega (arith, ints, clamps);
      below = omega (arith, ints, clamps);
      high = omega (arith, ints, clamps);
      starts = (omega (arith, ints, clamps), omega (arith, ints, clamps));
      ends = (omega (arith, ints, clamps), omega (arith, ints, clamps));
      tops = (omega (arith, ints, clamps), omega (arith, ints, clamps));
      bottoms = by_lt_z (int_min (a.y +ℤ a.h) (b.y +ℤ b.h)) (int_max a.y b.y) (λ lt. inl (omega (arith, ints, clamps)))
          (λ le. inr (omega (arith, ints, clamps), omega (arith, ints, clamps)));
    }

-- a row that a part has lies among those that one of both has
row_of_part : (r : Rect) (first last y : ℤ) → first ≤ℤ r.y → (r.y +ℤ r.h) ≤ℤ last → within r.y r.h y ≡ true → (first ≤ℤ y) × (y <ℤ last)
row_of_part r first last y a b h =
    let i = inside r.y r.h y h in
    let low = i.low in
    let high = i.high in
    (omega (arith, ints), omega (arith, ints))

-- a point outside the damage, of which one part has the row
common_row : (at place : Rect) (damage : List Rect) (first top end last x y : ℤ) → AreCommonRows at place first top end last
    → HoldAll damage (rows_of at first top ∷ rows_of at end last ∷ []) → covered damage x y ≡ false → within at.x at.w x ≡ true
    → (first ≤ℤ y) × (y <ℤ last) → (top ≤ℤ y) × (y <ℤ end)
common_row at place damage first top end last x y rows held out column among =
    let k = neither (covers (rows_of at first top) x y) _ (held x y out) in
    let l = neither (covers (rows_of at end last) x y) _ k.1 in
    let a = among.0 in
    let b = among.1 in
    by_lt_z y top
    (λ lt. never (covers (rows_of at first top) x y) (both_of _ _ column (is_within_of first (top -ℤ first) y (record { low = omega (arith, ints); high = omega (arith, ints) }))) k.0)
    (λ from_top. by_lt_z y end
    (λ lt. (from_top, lt))
    (λ from_end. never (covers (rows_of at end last) x y) (both_of _ _ column (is_within_of end (last -ℤ end) y (record { low = omega (arith, ints); high = omega (arith, ints) }))) l.0))

-- a row that both parts have
in_both : (at place : Rect) (first top end last y : ℤ) → AreCommonRows at place first top end last → (top ≤ℤ y) × (y <ℤ end)
    → (within at.y at.h y ≡ true) × (within place.y place.h y ≡ true)
in_both at place first top end last y rows row =
    let a = rows.tops.0 in
    let b = rows.tops.1 in
    let low = row.0 in
    let high = row.1 in
    elim rows.bottoms as (λ _. (within at.y at.h y ≡ true) × (within place.y place.h y ≡ true)) [
      | inl none ↦ absurd (omega (arith, ints))
      | inr some ↦
          let c = some.0 in
          let d = some.1 in (
            is_within_of at.y at.h y (record { low = omega (arith, ints); high = omega (arith, ints) }),
            is_within_of place.y place.h y (record { low = omega (arith, ints); high = omega (arith, ints) }),
          )
    ]

-- two laid colours, where the tests agree and the colours do where they hold
laid_alike : (s t : Bool) (c d below : Parts) → (s ≡ true → t ≡ true) → (t ≡ true → s ≡ true) → (s ≡ true → c ≡ d)
    → cond s (blend below c) below ≡ cond t (blend below d) below
laid_alike true true c d below f g h = ap (blend below) (h refl)
laid_alike true false c d below f g h = never false (f refl) refl
laid_alike false true c d below f g h = never false (g refl) refl
laid_alike false false c d below f g h = refl

-- parts whose rows are damaged or alike
pub parts_alike : (image : Image) (at place : Rect) (from start : Point) (damage : List Rect) (first top end last : ℤ)
    → ShareColumns at from place start → AreCommonRows at place first top end last
    → HoldAll damage (rows_of at first top ∷ rows_of at end last ∷ [])
    → AreRowsAlike damage image at from place start top end → AreAlikeOutside damage image at from place start
parts_alike image at place from start damage first top end last share rows held alike passes x y out below =
    let xs = share.0 in
    let ws = share.1.0 in
    let columns : within at.x at.w x ≡ within place.x place.w x = ap (λ (z : ℤ). within z at.w x) xs ∙ ap (λ (z : ℤ). within place.x z x) ws in
    laid_alike (covers at x y) (covers place x y) (placed_pixel image at from x y) (placed_pixel image place start x y) below
    (λ h. let k = both _ _ h in
    let row = common_row at place damage first top end last x y rows held out k.0 (row_of_part at first last y rows.starts.0 rows.ends.0 k.1) in
    both_of _ _ (sym columns ∙ k.0) (in_both at place first top end last y rows row).1)
    (λ h. let k = both _ _ h in
    let row = common_row at place damage first top end last x y rows held out (columns ∙ k.0) (row_of_part place first last y rows.starts.1 rows.ends.1 k.1) in
    both_of _ _ (columns ∙ k.0) (in_both at place first top end last y rows row).0)
    (λ h. let k = both _ _ h in
    let row = common_row at place damage first top end last x y rows held out k.0 (row_of_part at first last y rows.starts.0 rows.ends.0 k.1) in
    let low = row.0 in
    let high = row.1 in
    alike x y out (both_of _ _ k.0 (is_within_of top (end -ℤ top) y (record { low = omega (arith, ints); high = omega (arith, ints) }))))

-- the end of the rows that both have, where they have some
pub ends_inside : (at place : Rect) (first top end last : ℤ) → AreCommonRows at place first top end last → top <ℤ end
    → (end ≤ℤ (at.y +ℤ at.h)) × (end ≤ℤ (place.y +ℤ place.h))
ends_inside at place first top end last rows lt =
    elim rows.bottoms as (λ _. (end ≤ℤ (at.y +ℤ at.h)) × (end ≤ℤ (place.y +ℤ place.h))) [
      | inl none ↦ absurd (omega (arith, ints))
      | inr some ↦ some
    ]

-- what three additions hold
pub three_held : (before first second last : List Rect) (r s : Rect) → HoldAll first (r ∷ before) → HoldAll second (s ∷ first) → HoldAll last second
    → HoldAll last (r ∷ s ∷ [])
three_held before first second last r s f g h x y out =
    let k = neither (covers s x y) (covered first x y) (g x y (h x y out)) in
    let l = neither (covers r x y) (covered before x y) (f x y k.1) in
    neither_of (covers r x y) (covered (s ∷ []) x y) l.0 (neither_of (covers s x y) false k.0 refl)

pub all_held : (before first second last : List Rect) (r s : Rect) → HoldAll first (r ∷ before) → HoldAll second (s ∷ first) → HoldAll last second
    → HoldAll last before
all_held before first second last r s f g h x y out =
    let k = neither (covers s x y) (covered first x y) (g x y (h x y out)) in
    (neither (covers r x y) (covered before x y) (f x y k.1)).1

same_images_back : (i j : Image) → AreSameImages i j → AreSameImages j i
same_images_back i j same = record {
  rect = sym same.rect;
  pixels = λ x y h. sym (same.pixels x y (ap (λ (r : Rect). covers r x y) same.rect ∙ h));
}

-- tiles of two images that show the same, of which one stands in the place of the other
pub moved_tiles : (reaches damage : List Rect) (a b : QuadView) (i j first second moved : Image) (at place : Rect) (from start : Point) (n : ℕ)
    → a ≡ tiled i at from → b ≡ tiled j place start → QuadFits 2048 2048 n b → first ≡ i → second ≡ j → moved ≡ i → AreSameImages first second
    → AreAlikeOutside damage moved at from place start → DifferWithin reaches damage (a ∷ []) (b ∷ [])
moved_tiles reaches damage a b i j first second moved at place from start n e f fits p q m same alike x y out passes clears below =
    let taken : IsTaken j place start = (subst (QuadFits 2048 2048 n) f fits).1 in
    let images : AreSameImages i j = subst (λ (k : Image). AreSameImages k j) p (subst (AreSameImages first) q same) in
    let parts : AreAlikeOutside damage i at from place start = subst (λ (k : Image). AreAlikeOutside damage k at from place start) m alike in
    ap (quad_over passes x y below) e
    ∙ parts passes x y out below
    ∙ sym (tiles_alike j i place start taken (same_images_back i j images) passes x y below)
    ∙ sym (ap (quad_over passes x y below) f)

-- quads whose areas are damaged
pub both_damaged : (reaches before first second : List Rect) (a b : QuadView) (area other : Rect)
    → ActWithin reaches (area ∷ []) (a ∷ []) → ActWithin reaches (other ∷ []) (b ∷ []) → HoldAll first (area ∷ before) → HoldAll second (other ∷ first)
    → DifferWithin reaches second (a ∷ []) (b ∷ [])
both_damaged reaches before first second a b area other acts act f g x y out passes clears below =
    let k = neither (covers other x y) (covered first x y) (g x y out) in
    let l = neither (covers area x y) (covered before x y) (f x y k.1) in
    acts x y (neither_of (covers area x y) false l.0 refl) passes clears below
    ∙ sym (act x y (neither_of (covers other x y) false k.0 refl) passes clears below)
