-- Quads, one more at a time, and groups.
use Rattle.std.proofs.Common.{◌≡◌, ℕ, inl, inr, ◌+◌, ◌*◌, ◌<◌, ◌≤◌, ℤ, pos, ◌+ℤ◌, List, length, take, get_or, sym, ◌∙◌, ap, arith, subst}
use Rattle.std.specs.Prelude.{All, fold, slice_index_or}
use Rattle.std.proofs.lemmas.Bool.{cases_lt}
use Rattle.std.proofs.lemmas.List.{get_or-map, take_all, length-map}
use Rattle.std.proofs.lemmas.List.Sums.{fold_more}
use Rattle.std.proofs.lemmas.List.Folds.{fold-map}
use Rattle.geom.specs.declared.Rect.{Rect}
use Rattle.pixel.specs.Colours.{Parts, blend, scaled, clear}
use Rattle.pixel.specs.Rows.{pixel}
use Rattle.page_display_list.specs.Bitmaps.{near}
use Rattle.viz_scene.specs.declared.Quad.{Quad}
use Rattle.viz_scene.specs.Views.{quad_view, quads_view, grouped}
use Rattle.viz_scene.specs.Pixels.{quad_over, quads_over}
use Rattle.viz_render.specs.inner.Drawing.{SurfaceView, colour_of, colours, CanBeDrawn}
use Rattle.viz_render.specs.inner.Masks.{EachOpenPoint, AreMarked, top}

-- one more quad over those before it
pub drawn_more : (passes : List Parts) (x y : ℤ) (below : Parts) (quads : List Quad) (i : ℕ) (q : Quad) → i < length quads → q ≡ get_or quads i q
    → quad_over passes x y (fold (λ c (p : Quad). quad_over passes x y c (quad_view p)) below (take i quads)) (quad_view q)
    ≡ fold (λ c (p : Quad). quad_over passes x y c (quad_view p)) below (take (i + 1) quads)
drawn_more passes x y below quads i q lt e =
    let step : Parts → Quad → Parts = λ c p. quad_over passes x y c (quad_view p) in
    ap (λ (p : Quad). quad_over passes x y (fold step below (take i quads)) (quad_view p)) e ∙ sym (fold_more step below quads i q lt)

-- all quads
pub drawn_all : (passes : List Parts) (x y : ℤ) (below : Parts) (quads : List Quad) (i : ℕ) → length quads ≤ i
    → fold (λ c (p : Quad). quad_over passes x y c (quad_view p)) below (take i quads) ≡ quads_over passes x y below (quads_view quads)
drawn_all passes x y below quads i le =
    let step : Parts → Quad → Parts = λ c p. quad_over passes x y c (quad_view p) in
    ap (fold step below) (take_all i quads le) ∙ sym (fold-map (quad_over passes x y) quad_view below quads)

-- each of them can be drawn
pub drawable : (n : ℕ) (quads : List Quad) (i : ℕ) (q : Quad) → All (CanBeDrawn n) (quads_view quads) → i < length quads → q ≡ get_or quads i q
    → CanBeDrawn n (quad_view q)
drawable n quads i q all lt e =
    let long : length (quads_view quads) ≡ length quads = length-map quads quad_view in
    let here : get_or (quads_view quads) i (quad_view q) ≡ quad_view q =
    get_or-map quad_view quads i q (quad_view q) lt ∙ ap quad_view (sym e) in
    subst (CanBeDrawn n) here (all i (quad_view q) (omega arith))

-- the place of a pixel is one of the area's
pub place_below : (w h x y : ℕ) → x < w → y < h → 4 * (y * w + x) + 4 ≤ 4 * (w * h)
place_below w h x y xw yh = grind arith

-- the colour of a pass
pub pass_colour : (surfaces : List SurfaceView) (pass : ℕ) (surface : SurfaceView) (x y : ℤ) → pass < length surfaces → surface ≡ get_or surfaces pass surface
    → slice_index_or (colours surfaces x y) pass clear ≡ colour_of surface x y
pass_colour surfaces pass surface x y lt e =
    get_or-map (λ (s : SurfaceView). colour_of s x y) surfaces pass surface clear lt ∙ ap (λ (s : SurfaceView). colour_of s x y) (sym e)

-- a group, drawn from the surface of its pass
pub group_shown : (area : Rect) (surfaces : List SurfaceView) (pass opacity : ℕ) (surface : SurfaceView) (tops : List ℕ) (number : ℕ) (old new : List ℕ)
    → pass < length surfaces → surface ≡ get_or surfaces pass surface
    → EachOpenPoint area tops number (λ x y below. blend below (scaled (colour_of surface x y) opacity)) old new
    → EachOpenPoint area tops number (λ x y below. quad_over (colours surfaces x y) x y below (grouped pass opacity)) old new
group_shown area surfaces pass opacity surface tops number old new lt e each x y xw yh seen =
    let k = y * near area.w + x in
    each x y xw yh seen
    ∙ ap (λ (c : Parts). blend (pixel old k) (scaled c opacity)) (sym (pass_colour surfaces pass surface (area.x +ℤ pos x) (area.y +ℤ pos y) lt e))

-- ---- what is seen of quads

-- one more quad, where it or a later one is seen: one that hides what is below it may stand on anything
pub seen_more : (area : Rect) (passes : List SurfaceView) (below : Parts) (quads : List Quad) (tops : List ℕ) (i : ℕ) (q : Quad) (old new : List ℕ) (x y : ℕ)
    → AreMarked area quads tops → i < length quads → q ≡ get_or quads i q
    → (top tops x y ≤ i → pixel old (y * near area.w + x) ≡ fold (λ c (p : Quad). quad_over (colours passes (area.x +ℤ pos x) (area.y +ℤ pos y)) (area.x +ℤ pos x) (area.y +ℤ pos y) c (quad_view p)) below (take i quads))
    → pixel new (y * near area.w + x) ≡ quad_over (colours passes (area.x +ℤ pos x) (area.y +ℤ pos y)) (area.x +ℤ pos x) (area.y +ℤ pos y) (pixel old (y * near area.w + x)) (quad_view q)
    → x < near area.w → y < near area.h → top tops x y ≤ i + 1
    → pixel new (y * near area.w + x) ≡ fold (λ c (p : Quad). quad_over (colours passes (area.x +ℤ pos x) (area.y +ℤ pos y)) (area.x +ℤ pos x) (area.y +ℤ pos y) c (quad_view p)) below (take (i + 1) quads)
seen_more area passes below quads tops i q old new x y marked lt e before drawn xw yh seen =
    let px = area.x +ℤ pos x in
    let py = area.y +ℤ pos y in
    let cs = colours passes px py in
    let so_far : Parts = fold (λ c (p : Quad). quad_over cs px py c (quad_view p)) below (take i quads) in
    let Goal : Type 0 = pixel new (y * near area.w + x) ≡ fold (λ c (p : Quad). quad_over cs px py c (quad_view p)) below (take (i + 1) quads) in
    elim (cases_lt (top tops x y) (i + 1)) as (λ _. Goal) [
      | inl low ↦
          drawn ∙ ap (λ (c : Parts). quad_over cs px py c (quad_view q)) (before (omega arith)) ∙ drawn_more cs px py below quads i q lt e
      | inr high ↦
          let same : top tops x y ≡ i + 1 = omega arith in
          let hides = marked x y i xw yh same lt q e in
          drawn ∙ hides cs (pixel old (y * near area.w + x)) so_far ∙ drawn_more cs px py below quads i q lt e
    ]
