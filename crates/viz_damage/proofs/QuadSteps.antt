-- Quads that act alike, and the areas that they act on.
use Rattle.std.proofs.Common.{◌≡◌, ℕ, ◌+◌, ◌<◌, ◌≤◌, ℤ, pos, ◌+ℤ◌, ◌-ℤ◌, ◌≤ℤ◌, Bool, true, false, cond, List, [], ◌∷◌, ◌++◌, length, get_or, take, refl, sym, ◌∙◌, ap, subst, arith}
use Rattle.std.specs.Prelude.{All}
use Rattle.std.proofs.lemmas.Int.{ints}
use Rattle.std.proofs.lemmas.List.{get_or-map, length-map, take_all, take_more}
use Rattle.geom.specs.declared.Rect.{Rect}
use Rattle.geom.specs.declared.Point.{Point}
use Rattle.geom.specs.Covers.{covers, within}
use Rattle.geom.proofs.Spans.{inside, is_within_of, both, both_of}
use Rattle.pixel.specs.Colours.{Parts, blend}
use Rattle.page_display_list.specs.Content.{content}
use Rattle.tile_raster.specs.Images.{Image}
use Rattle.viz_scene.specs.declared.Quad.{Quad}
use Rattle.viz_scene.specs.Views.{QuadView, tiled, quad_view, quads_view}
use Rattle.viz_scene.specs.Pixels.{placed_pixel, quad_over, quads_over}
use Rattle.viz_scene.specs.Sound.{IsTaken, QuadFits}
use Rattle.viz_scene.proofs.Steps.{quads_append}
use Rattle.viz_scene.specs.Areas.{Holds}
use Rattle.viz_damage.specs.inner.Alike.{AreSameImages, ActAlike, ActWithin}
use Rattle.viz_damage.proofs.AreaSteps.{neither, neither_of}

-- two rects whose parts are equal
pub same_rects : (a b : Rect) → a.x ≡ b.x → a.y ≡ b.y → a.w ≡ b.w → a.h ≡ b.h → a ≡ b
same_rects a b x y w h = λ i. record { x = x i; y = y i; w = w i; h = h i }

-- two colours that are equal where a test holds
where_held : (t : Bool) (c d below : Parts) → (t ≡ true → c ≡ d) → cond t (blend below c) below ≡ cond t (blend below d) below
where_held true c d below h = ap (blend below) (h refl)
where_held false c d below h = refl

-- a place of the image, on one axis
place_within : (start len from at size point : ℤ) → pos 0 ≤ℤ from → (from +ℤ size) ≤ℤ len → within at size point ≡ true
    → within start len (start +ℤ (from +ℤ (point -ℤ at))) ≡ true
place_within start len from at size point low fit h =
    let i = inside at size point h in
    is_within_of start len (start +ℤ (from +ℤ (point -ℤ at))) (record { low = omega (arith, ints); high = omega (arith, ints) })

-- tiles of two images that show the same
pub tiles_alike : (i j : Image) (at : Rect) (from : Point) → IsTaken i at from → AreSameImages i j → ActAlike (tiled i at from) (tiled j at from)
tiles_alike i j at from t same passes x y below =
    where_held (covers at x y) (placed_pixel i at from x y) (placed_pixel j at from x y) below
    (λ h. let k = both _ _ h in
    let px = from.x +ℤ (x -ℤ at.x) in
    let py = from.y +ℤ (y -ℤ at.y) in
    let there = both_of _ _ (place_within i.rect.x i.rect.w from.x at.x at.w x t.left t.right k.0) (place_within i.rect.y i.rect.h from.y at.y at.h y t.top t.bottom k.1) in
    same.pixels (i.rect.x +ℤ px) (i.rect.y +ℤ py) there ∙ ap (λ (r : Rect). content j.list (r.x +ℤ px) (r.y +ℤ py)) same.rect)

pub same_tiles : (a b : QuadView) (i j first second : Image) (at place : Rect) (from start : Point) (n : ℕ) → a ≡ tiled i at from → b ≡ tiled j place start
    → at ≡ place → from ≡ start → QuadFits 2048 2048 n a → first ≡ i → second ≡ j → AreSameImages first second → ActAlike a b
same_tiles a b i j first second at place from start n e f g h fits p q same passes x y below =
    let taken : IsTaken i at from = (subst (QuadFits 2048 2048 n) e fits).1 in
    let alike : AreSameImages i j = subst (λ (k : Image). AreSameImages k j) p (subst (AreSameImages first) q same) in
    ap (quad_over passes x y below) e
    ∙ tiles_alike i j at from taken alike passes x y below
    ∙ ap (λ (r : Rect). quad_over passes x y below (tiled j r from)) g
    ∙ ap (λ (s : Point). quad_over passes x y below (tiled j place s)) h
    ∙ ap (quad_over passes x y below) (sym f)

-- a quad of a list
pub fits_at : (n : ℕ) (quads : List Quad) (i : ℕ) (q : Quad) → All (QuadFits 2048 2048 n) (quads_view quads) → i < length quads → q ≡ get_or quads i q
    → QuadFits 2048 2048 n (quad_view q)
fits_at n quads i q all lt e =
    let long : length (quads_view quads) ≡ length quads = length-map quads quad_view in
    let here : get_or (quads_view quads) i (quad_view q) ≡ quad_view q =
    get_or-map quad_view quads i q (quad_view q) lt ∙ ap quad_view (sym e) in
    subst (QuadFits 2048 2048 n) here (all i (quad_view q) (omega arith))

-- one more quad
pub view_more : (quads : List Quad) (i : ℕ) (q : Quad) → i < length quads → q ≡ get_or quads i q
    → take (i + 1) (quads_view quads) ≡ take i (quads_view quads) ++ quad_view q ∷ []
view_more quads i q lt e =
    let long : length (quads_view quads) ≡ length quads = length-map quads quad_view in
    take_more (quads_view quads) i (quad_view q) (omega arith)
    ∙ ap (λ (v : QuadView). take i (quads_view quads) ++ v ∷ []) (get_or-map quad_view quads i q (quad_view q) lt ∙ ap quad_view (sym e))

pub over_more : (passes : List Parts) (x y : ℤ) (below : Parts) (quads : List Quad) (i : ℕ) (q : Quad) → i < length quads → q ≡ get_or quads i q
    → quads_over passes x y below (take (i + 1) (quads_view quads)) ≡ quad_over passes x y (quads_over passes x y below (take i (quads_view quads))) (quad_view q)
over_more passes x y below quads i q lt e =
    ap (quads_over passes x y below) (view_more quads i q lt e) ∙ quads_append passes x y below (take i (quads_view quads)) (quad_view q ∷ [])

-- a wider area holds one quad more
pub reached_more : (reaches : List Rect) (quads : List Quad) (i : ℕ) (q : Quad) (reach area wider : Rect) → i < length quads → q ≡ get_or quads i q
    → ActWithin reaches (reach ∷ []) (take i (quads_view quads)) → ActWithin reaches (area ∷ []) (quad_view q ∷ []) → Holds wider reach → Holds wider area
    → ActWithin reaches (wider ∷ []) (take (i + 1) (quads_view quads))
reached_more reaches quads i q reach area wider lt e before here first second x y h passes clears below =
    let out = (neither (covers wider x y) false h).0 in
    over_more passes x y below quads i q lt e
    ∙ here x y (neither_of (covers area x y) false (second x y out) refl) passes clears (quads_over passes x y below (take i (quads_view quads)))
    ∙ before x y (neither_of (covers reach x y) false (first x y out) refl) passes clears below

pub reached_all : (reaches : List Rect) (quads : List Quad) (i : ℕ) (reach : Rect) → length quads ≤ i
    → ActWithin reaches (reach ∷ []) (take i (quads_view quads)) → ActWithin reaches (reach ∷ []) (quads_view quads)
reached_all reaches quads i reach le =
    let long : length (quads_view quads) ≡ length quads = length-map quads quad_view in
    subst (ActWithin reaches (reach ∷ [])) (take_all i (quads_view quads) (omega arith))
