-- A canvas fits into a PNG file, which then is of its image.
use Rattle.std.proofs.Common.{◌≡◌, ℕ, ◌*◌, ◌≤◌, ◌^◌, List, ◌++◌, length, ap, sym, ◌∙◌, arith}
use Rattle.std.specs.Prelude.{Some}
use Rattle.viz_scene.specs.Sound.{IsSceneSide}
use Rattle.viz_canvas.specs.Canvases.{CanvasView}
use Rattle.model_history.specs.Recordings.{image_head}
use Rattle.recording_png.specs.Pictures.{read_png}
use Rattle.recording_writer.specs.Files.{IsFileOf}
use Rattle.recording_writer.specs.Images.{image_of}

pub some_sides : (w h : ℕ) → IsSceneSide w → IsSceneSide h → (1 ≤ w) × (1 ≤ h)
some_sides w h wide tall = (wide.low, tall.low)

pub few_pixels : (w h : ℕ) → IsSceneSide w → IsSceneSide h → w * h ≤ 2 ^ 26
few_pixels w h wide tall =
    let most : w * h ≤ 2048 * 2048 = grind (arith, wide.high, tall.high) in
    omega (arith, most)

-- there are as many bytes as the rows have
pub rows_of_pixels : (w h : ℕ) (c : CanvasView) (bytes : List ℕ) → w ≡ c.w → h ≡ c.h → length bytes ≡ 3 * (c.w * c.h) → length bytes ≡ h * (3 * w)
rows_of_pixels w h c bytes wide tall size =
    size ∙ ap (λ (n : ℕ). 3 * (n * c.h)) (sym wide) ∙ ap (λ (n : ℕ). 3 * (w * n)) (sym tall) ∙ turned w h
  where
    turned : (w h : ℕ) → 3 * (w * h) ≡ h * (3 * w)
    turned w h = grind arith

-- a file of a canvas's bytes is of its image
pub canvas_file : (w h : ℕ) (c : CanvasView) (bytes file : List ℕ) → w ≡ c.w → h ≡ c.h → bytes ≡ c.bytes → read_png file ≡ Some (record { width = w; height = h; pixels = bytes }) → IsFileOf (image_of c) file
canvas_file w h c bytes file wide tall same reads = (
  record { width = w; height = h; pixels = bytes },
  reads,
  ap (λ (n : ℕ). image_head n h ++ bytes) wide ∙ ap (λ (n : ℕ). image_head c.w n ++ bytes) tall ∙ ap (λ (xs : List ℕ). image_head c.w c.h ++ xs) same,
)
