-- Quads that act some rows lower.
use Rattle.std.proofs.Common.{◌≡◌, ℕ, ◌+◌, ◌<◌, ◌≤◌, ℤ, pos, ◌+ℤ◌, ◌-ℤ◌, ◌≤ℤ◌, ◌<ℤ◌, Bool, true, false, cond, ◌&&◌, List, [], ◌∷◌, ◌++◌, refl, sym, ◌∙◌, ap, arith, zero, suc}
use Rattle.std.specs.Prelude.{All}
use Rattle.std.specs.Int.{int_max, int_min}
use Rattle.std.proofs.lemmas.Int.{ints, clamps}
use Rattle.std.proofs.lemmas.List.Elements.{All-append}
use Rattle.geom.specs.declared.Rect.{Rect}
use Rattle.geom.specs.declared.Point.{Point}
use Rattle.geom.specs.Covers.{covers, within}
use Rattle.geom.proofs.Spans.{inside, is_within_of, same_test}
use Rattle.pixel.specs.Colours.{Parts, blend}
use Rattle.page_display_list.specs.Content.{content}
use Rattle.tile_raster.specs.Images.{Image}
use Rattle.viz_scene.specs.Views.{QuadView, tiled, plain}
use Rattle.viz_scene.specs.Pixels.{quads_over, placed_pixel}
use Rattle.viz_scene.specs.Sound.{IsIn, QuadFits}
use Rattle.viz_scene.proofs.Steps.{quads_append}
use Rattle.viz_damage.specs.Moved.{InRows}
use Rattle.viz_damage.specs.inner.Acting.{IsCut, IsRest, ActMoved, AlsoFit}

-- ---- the rows that are left of a span

rest_rows : (at len by top end start stop y : ℤ) → start ≡ int_max (at +ℤ by) top → stop ≡ int_min (at +ℤ len +ℤ by) end → InRows top end y
    → within start (stop -ℤ start) y ≡ within at len (y -ℤ by)
rest_rows at len by top end start stop y s e rows =
    let low = rows.low in
    let high = rows.high in
    same_test _ _
    (λ h. let i = inside _ _ _ h in
    let a = i.low in
    let b = i.high in
    is_within_of _ _ _ (record { low = omega (arith, ints, clamps); high = omega (arith, ints, clamps) }))
    (λ h. let i = inside _ _ _ h in
    let a = i.low in
    let b = i.high in
    is_within_of _ _ _ (record { low = omega (arith, ints, clamps); high = omega (arith, ints, clamps) }))

pub no_rest : (at len by top end start stop : ℤ) → start ≡ int_max (at +ℤ by) top → stop ≡ int_min (at +ℤ len +ℤ by) end → stop ≤ℤ start
    → (y : ℤ) → InRows top end y → within at len (y -ℤ by) ≡ false
no_rest at len by top end start stop s e none y rows = by_test (within at len (y -ℤ by)) refl
  where
    by_test : (t : Bool) → within at len (y -ℤ by) ≡ t → within at len (y -ℤ by) ≡ false
    by_test false h = h
    by_test true h =
        let low = rows.low in
        let high = rows.high in
        let i = inside _ _ _ h in
        let a = i.low in
        let b = i.high in
        absurd (omega (arith, ints, clamps))

pub some_rest : (by top end start stop : ℤ) (at r : Rect) → start ≡ int_max (at.y +ℤ by) top → stop ≡ int_min (at.y +ℤ at.h +ℤ by) end → start <ℤ stop
    → r.x ≡ at.x → r.y ≡ start → r.w ≡ at.w → r.h ≡ stop -ℤ start → IsRest by top end at r
some_rest by top end start stop at r s e lt x y w h = record {
  x = x;
  w = w;
  rows = λ p rows.
      ap (λ (z : ℤ). within z r.h p) y ∙ ap (λ (z : ℤ). within start z p) h ∙ rest_rows at.y at.h by top end start stop p s e rows;
  above = omega (arith, ints, clamps);
  below = omega (arith, ints, clamps);
  start = omega (arith, ints, clamps);
  stop = omega (arith, ints, clamps);
  some = omega (arith, ints, clamps);
}

-- ---- what single quads show

and_false : (a b : Bool) → b ≡ false → a && b ≡ false
and_false true b h = h
and_false false b h = refl

rest_covers : (by top end : ℤ) (at r : Rect) (x y : ℤ) → IsRest by top end at r → InRows top end y → covers r x y ≡ covers at x (y -ℤ by)
rest_covers by top end at r x y rest rows =
    ap (λ (z : ℤ). within z r.w x && within r.y r.h y) rest.x
    ∙ ap (λ (z : ℤ). within at.x z x && within r.y r.h y) rest.w
    ∙ ap (λ (t : Bool). within at.x at.w x && t) (rest.rows y rows)

pub tile_moved : (by top end : ℤ) (image : Image) (at r : Rect) (from start : Point) → IsRest by top end at r → start.x ≡ from.x
    → start.y ≡ from.y +ℤ (r.y -ℤ (at.y +ℤ by)) → ActMoved by top end (tiled image at from ∷ []) (tiled image r start ∷ [])
tile_moved by top end image at r from start rest sx sy passes x y below rows =
    let rx : r.x ≡ at.x = rest.x in
    let px : image.rect.x +ℤ (start.x +ℤ (x -ℤ r.x)) ≡ image.rect.x +ℤ (from.x +ℤ (x -ℤ at.x)) = omega (arith, ints) in
    let py : image.rect.y +ℤ (start.y +ℤ (y -ℤ r.y)) ≡ image.rect.y +ℤ (from.y +ℤ (y -ℤ by -ℤ at.y)) = omega (arith, ints) in
    let same : placed_pixel image r start x y ≡ placed_pixel image at from x (y -ℤ by) =
    ap (λ (u : ℤ). content image.list u (image.rect.y +ℤ (start.y +ℤ (y -ℤ r.y)))) px ∙ ap (content image.list (image.rect.x +ℤ (from.x +ℤ (x -ℤ at.x)))) py in
    ap (λ (t : Bool). cond t (blend below (placed_pixel image r start x y)) below) (rest_covers by top end at r x y rest rows)
    ∙ ap (λ (c : Parts). cond (covers at x (y -ℤ by)) (blend below c) below) same

pub solid_moved : (by top end : ℤ) (at r : Rect) (c : Parts) → IsRest by top end at r → ActMoved by top end (plain at c ∷ []) (plain r c ∷ [])
solid_moved by top end at r c rest passes x y below rows =
    ap (λ (t : Bool). cond t (blend below c) below) (rest_covers by top end at r x y rest rows)

pub tile_gone : (by top end : ℤ) (image : Image) (at : Rect) (from : Point) → ((y : ℤ) → InRows top end y → within at.y at.h (y -ℤ by) ≡ false)
    → ActMoved by top end (tiled image at from ∷ []) []
tile_gone by top end image at from none passes x y below rows =
    sym (ap (λ (t : Bool). cond t (blend below (placed_pixel image at from x (y -ℤ by))) below) (and_false (within at.x at.w x) _ (none y rows)))

pub solid_gone : (by top end : ℤ) (at : Rect) (c : Parts) → ((y : ℤ) → InRows top end y → within at.y at.h (y -ℤ by) ≡ false)
    → ActMoved by top end (plain at c ∷ []) []
solid_gone by top end at c none passes x y below rows =
    sym (ap (λ (t : Bool). cond t (blend below c) below) (and_false (within at.x at.w x) _ (none y rows)))

-- ---- where single quads may stand

pub one_of : (P : QuadView → Type 0) (q : QuadView) → P q → All P (q ∷ [])
one_of P q h zero d lt = h
one_of P q h (suc k) d lt = absurd (omega arith)

pub only : (P : QuadView → Type 0) (q : QuadView) → All P (q ∷ []) → P q
only P q all = all zero q (omega arith)

rest_in : (w h : ℕ) (by top end : ℤ) (at r : Rect) → IsCut by top end → IsRest by top end at r → end ≤ℤ pos h → IsIn w h at → IsIn w h r
rest_in w h by top end at r cut rest le i =
    let a = rest.x in
    let b = rest.w in
    let s = rest.start in
    let e = rest.stop in
    let n = rest.some in
    let z = cut.start in
    let l = i.left in
    let wide = i.width in
    let right = i.right in
    record {
      left = omega (arith, ints);
      top = omega (arith, ints);
      width = omega (arith, ints);
      height = n;
      right = omega (arith, ints);
      bottom = omega (arith, ints);
    }

pub tile_fits : (by top end : ℤ) (image : Image) (at r : Rect) (from start : Point) → IsCut by top end → IsRest by top end at r → start.x ≡ from.x
    → start.y ≡ from.y +ℤ (r.y -ℤ (at.y +ℤ by)) → AlsoFit end (tiled image at from ∷ []) (tiled image r start ∷ [])
tile_fits by top end image at r from start cut rest sx sy w h n le all =
    let f = only (QuadFits w h n) (tiled image at from) all in
    let wide = rest.w in
    let above = rest.above in
    let below = rest.below in
    let left = f.1.left in
    let high = f.1.top in
    let right = f.1.right in
    let bottom = f.1.bottom in
    one_of (QuadFits w h n) (tiled image r start) (
      rest_in w h by top end at r cut rest le f.0,
      record {
        left = omega (arith, ints);
        top = omega (arith, ints);
        right = omega (arith, ints);
        bottom = omega (arith, ints);
      },
    )

pub solid_fits : (by top end : ℤ) (at r : Rect) (c : Parts) → IsCut by top end → IsRest by top end at r → AlsoFit end (plain at c ∷ []) (plain r c ∷ [])
solid_fits by top end at r c cut rest w h n le all =
    one_of (QuadFits w h n) (plain r c) (rest_in w h by top end at r cut rest le (only (QuadFits w h n) (plain at c) all))

-- ---- one quad more

pub act_more : (by top end : ℤ) (qs rs : List QuadView) (q r : QuadView) → ActMoved by top end qs rs → ActMoved by top end (q ∷ []) (r ∷ [])
    → ActMoved by top end (qs ++ q ∷ []) (rs ++ r ∷ [])
act_more by top end qs rs q r first second passes x y below rows =
    quads_append passes x y below rs (r ∷ [])
    ∙ second passes x y (quads_over passes x y below rs) rows
    ∙ ap (λ (b : Parts). quads_over passes x (y -ℤ by) b (q ∷ [])) (first passes x y below rows)
    ∙ sym (quads_append passes x (y -ℤ by) below qs (q ∷ []))

pub act_gone : (by top end : ℤ) (qs rs : List QuadView) (q : QuadView) → ActMoved by top end qs rs → ActMoved by top end (q ∷ []) []
    → ActMoved by top end (qs ++ q ∷ []) rs
act_gone by top end qs rs q first second passes x y below rows =
    second passes x y (quads_over passes x y below rs) rows
    ∙ ap (λ (b : Parts). quads_over passes x (y -ℤ by) b (q ∷ [])) (first passes x y below rows)
    ∙ sym (quads_append passes x (y -ℤ by) below qs (q ∷ []))

front_fits : (P : QuadView → Type 0) (qs rs : List QuadView) → All P (qs ++ rs) → All P qs
front_fits P [] rs all k d lt = absurd (omega arith)
front_fits P (q ∷ qs) rs all zero d lt = all zero d (omega arith)
front_fits P (q ∷ qs) rs all (suc k) d lt = front_fits P qs rs (λ j e le. all (suc j) e (omega arith)) k d (omega arith)

back_fits : (P : QuadView → Type 0) (qs rs : List QuadView) → All P (qs ++ rs) → All P rs
back_fits P [] rs all = all
back_fits P (q ∷ qs) rs all = back_fits P qs rs (λ j e le. all (suc j) e (omega arith))

pub fit_more : (end : ℤ) (qs rs : List QuadView) (q r : QuadView) → AlsoFit end qs rs → AlsoFit end (q ∷ []) (r ∷ []) → AlsoFit end (qs ++ q ∷ []) (rs ++ r ∷ [])
fit_more end qs rs q r first second w h n le all =
    All-append (QuadFits w h n) rs (r ∷ []) (first w h n le (front_fits (QuadFits w h n) qs (q ∷ []) all)) (second w h n le (back_fits (QuadFits w h n) qs (q ∷ []) all))

pub fit_gone : (end : ℤ) (qs rs : List QuadView) (q : QuadView) → AlsoFit end qs rs → AlsoFit end (qs ++ q ∷ []) rs
fit_gone end qs rs q first w h n le all = first w h n le (front_fits (QuadFits w h n) qs (q ∷ []) all)
