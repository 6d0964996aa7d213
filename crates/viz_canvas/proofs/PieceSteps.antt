-- Pieces of an area, and the quads that are seen in them.
use Rattle.std.proofs.Common.{◌≡◌, ℕ, ◌+◌, ◌-◌, ◌*◌, ◌<◌, ◌≤◌, ℤ, pos, ◌+ℤ◌, Bool, true, false, cond, ◌||◌, ◌⊎◌, List, [], ◌∷◌, ◌++◌, length, get_or, inl, inr, refl, sym, ◌∙◌, ap, subst, arith}
use Rattle.std.specs.Prelude.{All, map}
use Rattle.std.proofs.lemmas.Int.{ints}
use Rattle.std.proofs.lemmas.Bool.Decides.{nat_tests}
use Rattle.std.proofs.lemmas.List.{map-append, length-append, get_or_append_left, get_or_push}
use Rattle.geom.specs.declared.Rect.{Rect}
use Rattle.geom.specs.declared.Point.{Point}
use Rattle.pixel.specs.Colours.{Parts, blend}
use Rattle.pixel.specs.Surfaces.{IsInside, holds}
use Rattle.pixel.specs.declared.surface.Area.{Area}
use Rattle.page_display_list.specs.Bitmaps.{near}
use Rattle.page_display_list.specs.Shared.{IsShared, IsOutside}
use Rattle.page_display_list.specs.declared.CoveredArea.{CoveredArea}
use Rattle.tile_raster.specs.Images.{Image, AreAllOpaque, list_colour}
use Rattle.viz_scene.specs.declared.quad.Quad.{Quad}
use Rattle.viz_scene.specs.declared.quad.RenderPass.{RenderPass}
use Rattle.viz_scene.specs.Views.{QuadView, tiled, plain, grouped, quad_view, quads_view, pass_view, passes_view, SceneView}
use Rattle.viz_scene.specs.Pixels.{placed_pixel, quad_over, quads_over, passes_at, scene_pixel}
use Rattle.viz_scene.specs.Sound.{IsTaken}
use Rattle.viz_scene.proofs.Hiding.{blend_opaque}
use Rattle.viz_scene.proofs.Steps.{quads_append, scene_last}
use Rattle.viz_render.proofs.Tiles.{pixel_taken, taken}
use Rattle.viz_render.specs.inner.Drawing.{rows_from, columns_from, part_pixel}
use Rattle.viz_render.specs.inner.Shown.{Misses}
use Rattle.viz_canvas.specs.declared.band.Band.{Band}
use Rattle.viz_canvas.specs.Formats.{bytes_at}
use Rattle.viz_canvas.specs.inner.Bands.{IsInBand, IsBandDrawn, rect_in_band}
use Rattle.viz_canvas.specs.inner.Fresh.{IsPlaced}
use Rattle.viz_canvas.specs.inner.Pieces.{ShowsOnly, ShowAlike, IsReached, IsTopTile, IsTop, IsImageWritten}
use Rattle.viz_canvas.proofs.FreshSteps.{rows_in}

-- ---- the last of a list, and those before it

viewed : {A B : Type 0} (f : A → B) (xs ys : List A) (x : A) → xs ≡ ys ++ x ∷ [] → map f xs ≡ map f ys ++ f x ∷ []
viewed f xs ys x e = ap (map f) e ∙ map-append f ys (x ∷ [])

pub all_before : {A B : Type 0} (P : B → Type 0) (f : A → B) (xs ys : List A) (x : A) → xs ≡ ys ++ x ∷ [] → All P (map f xs) → All P (map f ys)
all_before P f xs ys x e all k d lt =
    let split = viewed f xs ys x e in
    let long = ap length split ∙ length-append (map f ys) (f x ∷ []) in
    subst P (ap (λ vs. get_or vs k d) split ∙ get_or_append_left (map f ys) (f x ∷ []) d k lt) (all k d (omega arith))

pub all_last : {A B : Type 0} (P : B → Type 0) (f : A → B) (xs ys : List A) (x : A) → xs ≡ ys ++ x ∷ [] → All P (map f xs) → P (f x)
all_last P f xs ys x e all =
    let split = viewed f xs ys x e in
    let long = ap length split ∙ length-append (map f ys) (f x ∷ []) in
    let k = length (map f ys) in
    subst P (ap (λ vs. get_or vs k (f x)) split ∙ get_or_push (map f ys) (f x) (f x) k refl) (all k (f x) (omega arith))

-- ---- quads that are not seen

-- a quad that lies on no pixel may be left out at the end
pub without_last : (area : Rect) (all rest below : List Quad) (top : Quad) → rest ≡ below ++ top ∷ [] → Misses area (quad_view top)
    → ShowAlike area (quads_view all) (quads_view rest) → ShowAlike area (quads_view all) (quads_view below)
without_last area all rest below top e misses alike passes x y c xw yh =
    let px = area.x +ℤ pos x in
    let py = area.y +ℤ pos y in
    alike passes x y c xw yh
    ∙ ap (λ (qs : List QuadView). quads_over passes px py c qs) (viewed quad_view rest below top e)
    ∙ quads_append passes px py c (quads_view below) (quad_view top ∷ [])
    ∙ misses passes x y (quads_over passes px py c (quads_view below)) xw yh

pub tile_misses : (image : Image) (at area : Rect) (from : Point) → IsOutside at area → Misses area (tiled image at from)
tile_misses image at area from out passes x y below xw yh =
    ap (λ (b : Bool). cond b (blend below (placed_pixel image at from (area.x +ℤ pos x) (area.y +ℤ pos y))) below) (out x y xw yh)

pub solid_misses : (at area : Rect) (colour : Parts) → IsOutside at area → Misses area (plain at colour)
solid_misses at area colour out passes x y below xw yh = ap (λ (b : Bool). cond b (blend below colour) below) (out x y xw yh)

-- ---- points of an area of a band

column_there : (at : Area) (x y : ℕ) → holds at x y ≡ true → x - at.x < at.w
column_there at x y on = grind (arith, nat_tests)

row_there : (at : Area) (x y : ℕ) → holds at x y ≡ true → y - at.y < at.h
row_there at x y on = grind (arith, nat_tests)

from_left : (at : Area) (x y : ℕ) → holds at x y ≡ true → at.x ≤ x
from_left at x y on = grind (arith, nat_tests)

from_top : (at : Area) (x y : ℕ) → holds at x y ≡ true → at.y ≤ y
from_top at x y on = grind (arith, nat_tests)

-- what holds at a point of the rect of an area, counted from its corner, holds at the point of the screen
at_point : (band : Band) (at : Area) (P : ℤ → ℤ → Type 0) (x y : ℕ) → holds at x y ≡ true
    → P (pos at.x +ℤ pos (x - at.x)) (pos (band.top + at.y) +ℤ pos (y - at.y)) → P (pos x) (pos (band.top + y))
at_point band at P x y on p =
    let left = from_left at x y on in
    let top = from_top at x y on in
    let column : pos at.x +ℤ pos (x - at.x) ≡ pos x = omega (arith, ints) in
    let row : pos (band.top + at.y) +ℤ pos (y - at.y) ≡ pos (band.top + y) = omega (arith, ints) in
    subst (λ (u : ℤ). P u (pos (band.top + y))) column (subst (P (pos at.x +ℤ pos (x - at.x))) row p)

-- ---- what a scene shows in an area

pub root_shows : (s : SceneView) (band : Band) (at : Area) (all inner : List RenderPass) (root : RenderPass) → passes_view all ≡ s.passes → all ≡ inner ++ root ∷ []
    → ShowsOnly s band at (pass_view root)
root_shows s band at all inner root e f x y on = record {
  passes = passes_at (pos x) (pos (band.top + y)) [] (passes_view inner);
  below = s.background;
  same =
      ap (λ (ps : List (List QuadView)). scene_pixel (record { w = s.w; h = s.h; background = s.background; passes = ps }) (pos x) (pos (band.top + y)))
      (sym e ∙ viewed pass_view all inner root f)
      ∙ scene_last s.w s.h s.background (passes_view inner) (pass_view root) (pos x) (pos (band.top + y));
}

pub only_seen : (s : SceneView) (band : Band) (at : Area) (qs rs : List QuadView) → ShowAlike (rect_in_band band at) qs rs → ShowsOnly s band at qs
    → ShowsOnly s band at rs
only_seen s band at qs rs alike only x y on =
    let o = only x y on in
    record {
      passes = o.passes;
      below = o.below;
      same =
          o.same
          ∙ at_point band at (λ u v. quads_over o.passes u v o.below qs ≡ quads_over o.passes u v o.below rs) x y on
          (alike o.passes (x - at.x) (y - at.y) o.below (column_there at x y on) (row_there at x y on));
    }

pub only_split : (s : SceneView) (band : Band) (at : Area) (seen below : List Quad) (top : Quad) → seen ≡ below ++ top ∷ [] → ShowsOnly s band at (quads_view seen)
    → ShowsOnly s band at (quads_view below ++ quad_view top ∷ [])
only_split s band at seen below top e only = subst (ShowsOnly s band at) (viewed quad_view seen below top e) only

-- beside the part that a quad covers it changes nothing
beside_part : (q : QuadView) (area : Rect) (part : CoveredArea) (passes : List Parts) (x y : ℕ) (below : Parts) → IsReached q area part
    → x < near area.w → y < near area.h → holds part.at x y ≡ false → quad_over passes (area.x +ℤ pos x) (area.y +ℤ pos y) below q ≡ below
beside_part (tiled image at from) area part passes x y below shared xw yh off =
    ap (λ (b : Bool). cond b (blend below (placed_pixel image at from (area.x +ℤ pos x) (area.y +ℤ pos y))) below) (shared.points x y xw yh ∙ off)
beside_part (plain at colour) area part passes x y below shared xw yh off = ap (λ (b : Bool). cond b (blend below colour) below) (shared.points x y xw yh ∙ off)
beside_part (grouped pass opacity) area part passes x y below reached xw yh off = absurd reached

-- a piece beside that part shows the other quads alone
only_below : (s : SceneView) (band : Band) (at piece : Area) (part : CoveredArea) (below : List QuadView) (top : QuadView) → IsReached top (rect_in_band band at) part
    → ShowsOnly s band at (below ++ top ∷ [])
    → ((x y : ℕ) → holds piece x y ≡ true → holds at x y ≡ true)
    → ((x y : ℕ) → holds piece x y ≡ true → holds part.at (x - at.x) (y - at.y) ≡ false)
    → ShowsOnly s band piece below
only_below s band at piece part below top reached only within off x y on =
    let here = within x y on in
    let o = only x y here in
    let under = quads_over o.passes (pos x) (pos (band.top + y)) o.below below in
    record {
      passes = o.passes;
      below = o.below;
      same =
          o.same ∙ quads_append o.passes (pos x) (pos (band.top + y)) o.below below (top ∷ [])
          ∙ at_point band at (λ u v. quad_over o.passes u v under top ≡ under) x y here
          (beside_part top (rect_in_band band at) part o.passes (x - at.x) (y - at.y) under reached (column_there at x y here) (row_there at x y here) (off x y on));
    }

-- ---- the pieces of an area

in_rows_of : (at : Area) (r n x y : ℕ) → r + n ≤ at.h → holds (rows_from at r n) x y ≡ true → holds at x y ≡ true
in_rows_of at r n x y fit on = grind (arith, nat_tests)

in_columns_of : (at : Area) (c n x y : ℕ) → c + n ≤ at.w → holds (columns_from at c n) x y ≡ true → holds at x y ≡ true
in_columns_of at c n x y fit on = grind (arith, nat_tests)

above_off : (at part : Area) (x y : ℕ) → holds (rows_from at 0 part.y) x y ≡ true → holds part (x - at.x) (y - at.y) ≡ false
above_off at part x y on = grind (arith, nat_tests)

under_off : (at part : Area) (n x y : ℕ) → holds (rows_from at (part.y + part.h) n) x y ≡ true → holds part (x - at.x) (y - at.y) ≡ false
under_off at part n x y on = grind (arith, nat_tests)

left_off : (at part : Area) (x y : ℕ) → holds (columns_from (rows_from at part.y part.h) 0 part.x) x y ≡ true → holds part (x - at.x) (y - at.y) ≡ false
left_off at part x y on = grind (arith, nat_tests)

right_off : (at part : Area) (n x y : ℕ) → holds (columns_from (rows_from at part.y part.h) (part.x + part.w) n) x y ≡ true
    → holds part (x - at.x) (y - at.y) ≡ false
right_off at part n x y on = grind (arith, nat_tests)

module _ (s : SceneView) (band : Band) (at : Area) (part : CoveredArea) (below : List QuadView) (top : QuadView) where
  pub above_shows : IsReached top (rect_in_band band at) part → IsInside part.at at.w at.h → ShowsOnly s band at (below ++ top ∷ [])
      → ShowsOnly s band (rows_from at 0 part.at.y) below
  above_shows reached inside only =
      let down = inside.down in
      only_below s band at (rows_from at 0 part.at.y) part below top reached only
      (λ x y on. in_rows_of at 0 part.at.y x y (omega arith) on) (above_off at part.at)

  pub under_shows : IsReached top (rect_in_band band at) part → IsInside part.at at.w at.h → ShowsOnly s band at (below ++ top ∷ [])
      → ShowsOnly s band (rows_from at (part.at.y + part.at.h) (at.h - (part.at.y + part.at.h))) below
  under_shows reached inside only =
      let down = inside.down in
      let n = at.h - (part.at.y + part.at.h) in
      only_below s band at (rows_from at (part.at.y + part.at.h) n) part below top reached only
      (λ x y on. in_rows_of at (part.at.y + part.at.h) n x y (omega arith) on) (under_off at part.at n)

  pub left_shows : IsReached top (rect_in_band band at) part → IsInside part.at at.w at.h → ShowsOnly s band at (below ++ top ∷ [])
      → ShowsOnly s band (columns_from (rows_from at part.at.y part.at.h) 0 part.at.x) below
  left_shows reached inside only =
      let across = inside.across in
      let down = inside.down in
      let beside = rows_from at part.at.y part.at.h in
      only_below s band at (columns_from beside 0 part.at.x) part below top reached only
      (λ x y on. in_rows_of at part.at.y part.at.h x y down (in_columns_of beside 0 part.at.x x y (omega arith) on)) (left_off at part.at)

  pub right_shows : IsReached top (rect_in_band band at) part → IsInside part.at at.w at.h → ShowsOnly s band at (below ++ top ∷ [])
      → ShowsOnly s band (columns_from (rows_from at part.at.y part.at.h) (part.at.x + part.at.w) (at.w - (part.at.x + part.at.w))) below
  right_shows reached inside only =
      let across = inside.across in
      let down = inside.down in
      let beside = rows_from at part.at.y part.at.h in
      let n = at.w - (part.at.x + part.at.w) in
      only_below s band at (columns_from beside (part.at.x + part.at.w) n) part below top reached only
      (λ x y on. in_rows_of at part.at.y part.at.h x y down (in_columns_of beside (part.at.x + part.at.w) n x y (omega arith) on)) (right_off at part.at n)

-- the part of an area that a tile or a solid covers lies in the area
pub reached_inside : (q : QuadView) (band : Band) (at : Area) (part : CoveredArea) → IsReached q (rect_in_band band at) part → IsInside part.at at.w at.h
reached_inside (tiled image rect from) band at part shared = shared.inside
reached_inside (plain rect colour) band at part shared = shared.inside
reached_inside (grouped pass opacity) band at part reached = absurd reached

-- ---- the topmost quad of a piece

-- where an opaque tile lies, its image's pixel hides what is below
tile_shows : (image : Image) (at area : Rect) (from : Point) (part : CoveredArea) (passes : List Parts) (x y : ℕ) (below : Parts) → IsTaken image at from
    → IsShared at area part → AreAllOpaque image.list image.rect
    → part.left + near from.x + part.at.w ≤ near image.rect.w → part.above + near from.y + part.at.h ≤ near image.rect.h
    → x < near area.w → y < near area.h → holds part.at x y ≡ true
    → quad_over passes (area.x +ℤ pos x) (area.y +ℤ pos y) below (tiled image at from) ≡ part_pixel image (taken part from) x y
tile_shows image at area from part passes x y below t shared opaque columns rows xw yh on =
    let px = area.x +ℤ pos x in
    let py = area.y +ℤ pos y in
    let placed = placed_pixel image at from px py in
    let is : part_pixel image (taken part from) x y ≡ placed = pixel_taken image at area from part x y t shared xw yh on in
    let across = column_there part.at x y on in
    let down = row_there part.at x y on in
    let alpha : placed.a ≡ 255 =
    ap (λ (p : Parts). p.a) (sym is) ∙ opaque (x - part.at.x + (part.left + near from.x)) (y - part.at.y + (part.above + near from.y)) (omega arith) (omega arith) in
    ap (λ (b : Bool). cond b (blend below placed) below) (shared.points x y xw yh ∙ on) ∙ blend_opaque below placed alpha ∙ sym is

piece_in_part : (at part : Area) (x y : ℕ) → holds (columns_from (rows_from at part.y part.h) part.x part.w) x y ≡ true → holds part (x - at.x) (y - at.y) ≡ true
piece_in_part at part x y on = grind (arith, nat_tests)

pub top_here : (s : SceneView) (band : Band) (at : Area) (part : CoveredArea) (below : List QuadView) (top : QuadView) → IsPlaced top
    → IsReached top (rect_in_band band at) part → ShowsOnly s band at (below ++ top ∷ [])
    → IsTop s band (columns_from (rows_from at part.at.y part.at.h) part.at.x part.at.w) part top
top_here s band at part below (tiled image rect from) placed shared only =
    let t = placed.1 in
    let area = rect_in_band band at in
    let beside = rows_from at part.at.y part.at.h in
    let columns = rows_in from.x rect.w image.rect.w part.left part.at.w t.left placed.0.across.length_low t.right shared.columns in
    let rows = rows_in from.y rect.h image.rect.h part.above part.at.h t.top placed.0.down.length_low t.bottom shared.rows in
    let shown : AreAllOpaque image.list image.rect → (x y : ℕ) → holds (columns_from beside part.at.x part.at.w) x y ≡ true
    → scene_pixel s (pos x) (pos (band.top + y))
    ≡ list_colour image.list image.rect (part.left + near from.x + (x - (at.x + part.at.x))) (part.above + near from.y + (y - (at.y + part.at.y))) = λ opaque x y on.
    let here = in_rows_of at part.at.y part.at.h x y shared.inside.down (in_columns_of beside part.at.x part.at.w x y shared.inside.across on) in
    let o = only x y here in
    let under = quads_over o.passes (pos x) (pos (band.top + y)) o.below below in
    let column : x - at.x - part.at.x + (part.left + near from.x) ≡ part.left + near from.x + (x - (at.x + part.at.x)) = omega arith in
    let row : y - at.y - part.at.y + (part.above + near from.y) ≡ part.above + near from.y + (y - (at.y + part.at.y)) = omega arith in
    o.same ∙ quads_append o.passes (pos x) (pos (band.top + y)) o.below below (tiled image rect from ∷ [])
    ∙ at_point band at (λ u v. quad_over o.passes u v under (tiled image rect from) ≡ part_pixel image (taken part from) (x - at.x) (y - at.y)) x y here
    (tile_shows image rect area from part o.passes (x - at.x) (y - at.y) under t shared opaque columns rows
    (column_there at x y here) (row_there at x y here) (piece_in_part at part.at x y on))
    ∙ ap (λ (k : ℕ). list_colour image.list image.rect k (y - at.y - part.at.y + (part.above + near from.y))) column
    ∙ ap (list_colour image.list image.rect (part.left + near from.x + (x - (at.x + part.at.x)))) row in
    (t.left, t.top, record { columns = columns; rows = rows; shown = shown })
top_here s band at part below (plain rect colour) placed shared only = tt
top_here s band at part below (grouped pass opacity) placed reached only = absurd reached

same_where : {C : Type 0} (t : Bool) (c d below : C) → (t ≡ true → c ≡ d) → cond t c below ≡ cond t d below
same_where true c d below h = h refl
same_where false c d below h = refl

-- an image that was written is what the scene shows there
pub image_drawn : (d : ℕ) (bytes_of : Parts → List ℕ) (s : SceneView) (band : Band) (at : Area) (left above : ℕ) (image : Image) (old new : List ℕ)
    → IsTopTile s band at left above image → AreAllOpaque image.list image.rect → IsImageWritten d bytes_of image left above band at old new
    → IsBandDrawn d bytes_of s band at old new
image_drawn d bytes_of s band at left above image old new top opaque written x y xw yh =
    written x y xw yh
    ∙ same_where (holds at x y) (bytes_of (list_colour image.list image.rect (left + (x - at.x)) (above + (y - at.y)))) (bytes_of (scene_pixel s (pos x) (pos (band.top + y)))) (bytes_at d old (y * band.across + x))
    (λ on. ap bytes_of (sym (top.shown opaque x y on)))

-- ---- pieces that were drawn, one after another

chosen : {C : Type 0} (a b c t : Bool) (old first second new v : C) → t ≡ (a || b) || c
    → first ≡ cond a v old → second ≡ cond b v first → new ≡ cond c v second → new ≡ cond t v old
chosen true true true t old first second new v e f g h = rw e h
chosen true true false t old first second new v e f g h = rw e (h ∙ g)
chosen true false true t old first second new v e f g h = rw e h
chosen true false false t old first second new v e f g h = rw e (h ∙ g ∙ f)
chosen false true true t old first second new v e f g h = rw e h
chosen false true false t old first second new v e f g h = rw e (h ∙ g)
chosen false false true t old first second new v e f g h = rw e h
chosen false false false t old first second new v e f g h = rw e (h ∙ g ∙ f)

pub three_drawn : (d : ℕ) (bytes_of : Parts → List ℕ) (s : SceneView) (band : Band) (a b c whole : Area) (old first second new : List ℕ)
    → ((x y : ℕ) → holds whole x y ≡ (holds a x y || holds b x y) || holds c x y)
    → IsBandDrawn d bytes_of s band a old first → IsBandDrawn d bytes_of s band b first second → IsBandDrawn d bytes_of s band c second new
    → IsBandDrawn d bytes_of s band whole old new
three_drawn d bytes_of s band a b c whole old first second new parts one two three x y xw yh =
    let k = y * band.across + x in
    chosen (holds a x y) (holds b x y) (holds c x y) (holds whole x y) (bytes_at d old k) (bytes_at d first k) (bytes_at d second k) (bytes_at d new k)
    (bytes_of (scene_pixel s (pos x) (pos (band.top + y)))) (parts x y) (one x y xw yh) (two x y xw yh) (three x y xw yh)

pub rows_cut : (at : Area) (r n x y : ℕ) → r + n ≤ at.h
    → holds at x y ≡ (holds (rows_from at 0 r) x y || holds (rows_from at r n) x y) || holds (rows_from at (r + n) (at.h - (r + n))) x y
rows_cut at r n x y fit = grind (arith, nat_tests)

pub columns_cut : (at : Area) (c n x y : ℕ) → c + n ≤ at.w
    → holds at x y ≡ (holds (columns_from at 0 c) x y || holds (columns_from at c n) x y) || holds (columns_from at (c + n) (at.w - (c + n))) x y
columns_cut at c n x y fit = grind (arith, nat_tests)

-- an area without pixels is drawn
pub none_drawn : (d : ℕ) (bytes_of : Parts → List ℕ) (s : SceneView) (band : Band) (at : Area) (old : List ℕ) → (at.w ≡ 0) ⊎ (at.h ≡ 0)
    → IsBandDrawn d bytes_of s band at old old
none_drawn d bytes_of s band at old none x y xw yh =
    let k = y * band.across + x in
    sym (ap (λ (b : Bool). cond b (bytes_of (scene_pixel s (pos x) (pos (band.top + y)))) (bytes_at d old k)) (off none))
  where
    off : (at.w ≡ 0) ⊎ (at.h ≡ 0) → holds at x y ≡ false
    off (inl e) = grind (arith, nat_tests)
    off (inr e) = grind (arith, nat_tests)

-- a piece lies in the band
pub piece_in : (d : ℕ) (s : SceneView) (band : Band) (at piece : Area) (old new : List ℕ) → IsInBand d s band at old → length new ≡ length old
    → IsInside piece s.w band.rows → IsInBand d s band piece new
piece_in d s band at piece old new place same inside = record { size = same ∙ place.size; wide = place.wide; inside = inside; end = place.end }

pub rows_inside : (at : Area) (w h r n : ℕ) → IsInside at w h → r + n ≤ at.h → IsInside (rows_from at r n) w h
rows_inside at w h r n inside fit = let down = inside.down in record { across = inside.across; down = omega arith }

pub columns_inside : (at : Area) (w h c n : ℕ) → IsInside at w h → c + n ≤ at.w → IsInside (columns_from at c n) w h
columns_inside at w h c n inside fit = let across = inside.across in record { across = omega arith; down = inside.down }
