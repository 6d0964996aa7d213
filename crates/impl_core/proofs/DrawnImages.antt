-- The image of the picture of a run is the image of what its screen shows.
use Rattle.std.proofs.Common.{◌≡◌, ℕ, zero, suc, pos, ◌<◌, true, List, ◌++◌, refl, ap, sym, ◌∙◌, arith}
use Rattle.geom.specs.declared.tile.TileKey.{TileKey}
use Rattle.geom.specs.Covers.{within, covers}
use Rattle.geom.proofs.Cuts.{within_natural}
use Rattle.geom.proofs.Spans.{both_of}
use Rattle.pixel.specs.Colours.{Parts}
use Rattle.viz_scene.specs.Views.{SceneView}
use Rattle.viz_scene.specs.Pixels.{scene_pixel}
use Rattle.page_layers.specs.Pages.{viewport}
use Rattle.model_history.specs.declared.event.Event.TheVariants as event
use Rattle.model_history.specs.declared.history.Entry.{Entry}
use Rattle.model_history.specs.Scripts.{ScriptModel}
use Rattle.model_history.specs.Frames.{active_page}
use Rattle.model_history.specs.Tiles.{missing_visible}
use Rattle.model_history.specs.Legal.{Next}
use Rattle.model_history.specs.Recordings.{joined_to, rgb, image_head, image_row, image, screen_colour, shown_image}
use Rattle.model_history.proofs.DueFacts.{at_draw}
use Rattle.impl_core.specs.Replies.{IsPicture}

-- equal pieces
first_alike : {X : Type 0} (n : ℕ) (f g : ℕ → List X) → ((k : ℕ) → k < n → f k ≡ g k) → joined_to n f ≡ joined_to n g
unfolding joined_to
first_alike zero f g same = refl
first_alike {X} (suc n) f g same =
    ap (λ (xs : List X). xs ++ f n) (first_alike n f g (λ k lt. same k (omega (arith, lt))))
    ∙ ap (λ (xs : List X). joined_to n g ++ xs) (same n (omega arith))

-- pictures with equal pixels have equal images
image_alike : (w h : ℕ) (c d : ℕ → ℕ → Parts) → ((x y : ℕ) → x < w → y < h → c x y ≡ d x y) → image c w h ≡ image d w h
unfolding image image_row
image_alike w h c d same =
    ap (λ (rows : List ℕ). image_head w h ++ rows)
    (first_alike h (λ y. joined_to w (λ x. rgb (c x y))) (λ y. joined_to w (λ x. rgb (d x y)))
    (λ y down. first_alike w (λ x. rgb (c x y)) (λ x. rgb (d x y)) (λ x across. ap rgb (same x y across down))))

-- a natural point of the view is one of the viewport
inside : (s : ScriptModel) (h : List Entry) (x y : ℕ) → x < (active_page s h).view.w → y < (active_page s h).view.h → covers (viewport (active_page s h)) (pos x) (pos y) ≡ true
inside s h x y across down =
    let w : ℕ = (active_page s h).view.w in
    let t : ℕ = (active_page s h).view.h in
    both_of (within (pos 0) (pos w) (pos x)) (within (pos 0) (pos t) (pos y)) (within_natural 0 w x (omega arith) (omega (arith, across))) (within_natural 0 t y (omega arith) (omega (arith, down)))

picture_image : (s : ScriptModel) (h : List Entry) (scene : SceneView) → IsPicture s h scene → image (λ x y. scene_pixel scene (pos x) (pos y)) scene.w scene.h ≡ shown_image s h (missing_visible s h)
unfolding shown_image
picture_image s h scene is =
    let w : ℕ = (active_page s h).view.w in
    let t : ℕ = (active_page s h).view.h in
    ap (λ (n : ℕ). image (λ x y. scene_pixel scene (pos x) (pos y)) n scene.h) is.width
    ∙ ap (λ (n : ℕ). image (λ x y. scene_pixel scene (pos x) (pos y)) w n) is.height
    ∙ image_alike w t (λ x y. scene_pixel scene (pos x) (pos y)) (screen_colour s h (missing_visible s h)) (λ x y across down. is.pixels (pos x) (pos y) (inside s h x y across down))

-- a draw that may come shows what its screen shows where the tiles that it lists are missing
pub drawn_image : (s : ScriptModel) (n : ℕ) (h : List Entry) (a i : ℕ) (lacks : List TileKey) (scene : SceneView) → Next s n h (record { actor = a; event = event.Draw i lacks }) → IsPicture s h scene
    → image (λ x y. scene_pixel scene (pos x) (pos y)) scene.w scene.h ≡ shown_image s h lacks
drawn_image s n h a i lacks scene next is = picture_image s h scene is ∙ ap (λ (keys : List TileKey). shown_image s h keys) (sym (at_draw s n h a i lacks next).lacking)
