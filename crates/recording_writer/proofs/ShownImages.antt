-- A canvas that shows a scene has its image.
use Rattle.std.proofs.Common.{◌≡◌, ℕ, zero, suc, ◌+◌, ◌*◌, ◌<◌, ◌≤◌, pos, List, [], ◌∷◌, ◌++◌, length, take, ap, sym, ◌∙◌, append_assoc, append-nil, arith}
use Rattle.std.proofs.Math.Seq.{take-add}
use Rattle.std.proofs.lemmas.List.{take_all}
use Rattle.viz_scene.specs.Views.{SceneView}
use Rattle.viz_scene.specs.Pixels.{scene_pixel}
use Rattle.viz_canvas.specs.Canvases.{CanvasView, EachIs}
use Rattle.viz_canvas.specs.Formats.{bytes_at}
use Rattle.viz_painter.specs.Painters.{ShowsWhole}
use Rattle.model_history.specs.Recordings.{joined_to, rgb, image_head, image_row, image}
use Rattle.recording_writer.specs.Images.{image_of}
use Rattle.thread_pieces.specs.Scenes.{scene_image}
use Rattle.pixel.specs.Colours.{Parts}

module _ (c : CanvasView) (colour : ℕ → ℕ → Parts) (each : EachIs 3 (λ x y. rgb (colour x y)) c) where
  -- the pixels of a row after the rows before
  row_prefix : (y x : ℕ) → y < c.h → x ≤ c.w → take (3 * (y * c.w)) c.bytes ≡ joined_to y (image_row colour c.w)
      → take (3 * (y * c.w + x)) c.bytes ≡ joined_to y (image_row colour c.w) ++ joined_to x (λ (i : ℕ). rgb (colour i y))
  unfolding joined_to bytes_at
  row_prefix y zero down across before =
      let none : 3 * (y * c.w + 0) ≡ 3 * (y * c.w) = omega arith in
      ap (λ (n : ℕ). take n c.bytes) none ∙ before ∙ sym (append-nil (joined_to y (image_row colour c.w)))
  row_prefix y (suc x) down across before =
      let next : 3 * (y * c.w + suc x) ≡ 3 * (y * c.w + x) + 3 = omega arith in
      ap (λ (n : ℕ). take n c.bytes) next
      ∙ take-add (3 * (y * c.w + x)) 3 c.bytes
      ∙ ap (λ (xs : List ℕ). take (3 * (y * c.w + x)) c.bytes ++ xs) (each x y (omega arith) down)
      ∙ ap (λ (xs : List ℕ). xs ++ rgb (colour x y)) (row_prefix y x down (omega arith) before)
      ∙ append_assoc (joined_to y (image_row colour c.w)) (joined_to x (λ (i : ℕ). rgb (colour i y))) (rgb (colour x y))

  -- the first rows
  rows_prefix : (y : ℕ) → y ≤ c.h → take (3 * (y * c.w)) c.bytes ≡ joined_to y (image_row colour c.w)
  unfolding joined_to image_row
  rows_prefix zero down =
      let none : 3 * (0 * c.w) ≡ 0 = omega arith in
      ap (λ (n : ℕ). take n c.bytes) none
  rows_prefix (suc y) down =
      let next : suc y * c.w ≡ y * c.w + c.w = grind arith in
      ap (λ (n : ℕ). take (3 * n) c.bytes) next
      ∙ row_prefix y c.w (omega arith) (omega arith) (rows_prefix y (omega arith))

  -- after the head of an image the bytes are the image
  whole_image : length c.bytes ≡ 3 * (c.w * c.h) → image_of c ≡ image colour c.w c.h
  unfolding image
  whole_image long =
      let turned : c.h * c.w ≡ c.w * c.h = grind arith in
      ap (λ (xs : List ℕ). image_head c.w c.h ++ xs)
      (sym (take_all (3 * (c.h * c.w)) c.bytes (omega arith)) ∙ rows_prefix c.h (omega arith))

-- the image of a canvas that shows a scene is the scene's
pub shown_image : (s : SceneView) (c : CanvasView) → ShowsWhole 3 (λ p. p.r ∷ p.g ∷ p.b ∷ []) s c → image_of c ≡ scene_image s
unfolding scene_image
shown_image s c shows =
    let wide = shows.size.wide in
    let tall = shows.size.tall in
    let colour : ℕ → ℕ → Parts = λ x y. scene_pixel s (pos x) (pos y) in
    whole_image c colour shows.pixels (shows.bytes ∙ sym (ap (λ (w : ℕ). 3 * (w * c.h)) wide ∙ ap (λ (h : ℕ). 3 * (s.w * h)) tall))
    ∙ ap (λ (n : ℕ). image colour n c.h) wide ∙ ap (λ (n : ℕ). image colour s.w n) tall
