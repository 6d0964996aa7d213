-- Pictures in buffers whose rows may have a gap between them, and what is drawn into them.
use Rattle.std.specs.Prelude.{ℕ, ◌+◌, ◌*◌, ◌<◌, ◌≤◌, ◌≡◌, pos, cond, Bool, List, length}
use Rattle.geom.specs.declared.Rect.{Rect}
use Rattle.pixel.specs.Colours.{Parts}
use Rattle.region.specs.Points.{covered}
use Rattle.viz_scene.specs.Views.{SceneView}
use Rattle.viz_scene.specs.Pixels.{scene_pixel}
use Rattle.viz_canvas.specs.Formats.{bytes_at}

-- the bytes of the pixel of column `x` and row `y`, where a row begins `across` pixels after the one above it
abbrev pub pixel_at : ℕ → ℕ → List ℕ → ℕ → ℕ → List ℕ
pixel_at depth across bytes x y = bytes_at depth bytes (y * across + x)

-- a buffer has `h` rows of `across` pixels each, and the first `w` pixels of a row are those of a picture
pub record HasRows (depth across w h : ℕ) (bytes : List ℕ) : Type 0 where
  pub wide : w ≤ across
  pub size : length bytes ≡ depth * (across * h)

-- the bytes of each pixel of a picture of `w` by `h` are what `p` says of its column and row
abbrev pub EachPixelIs : ℕ → ℕ → ℕ → ℕ → (ℕ → ℕ → List ℕ) → List ℕ → Type 0
EachPixelIs depth across w h p bytes = (x y : ℕ) → x < w → y < h → pixel_at depth across bytes x y ≡ p x y

-- the gap after the first `w` pixels of each row has the bytes that it had
pub record AreGapsKept (depth across w h : ℕ) (old new : List ℕ) : Type 0 where
  pub bytes : (x y : ℕ) → w ≤ x → x < across → y < h → pixel_at depth across new x y ≡ pixel_at depth across old x y

-- if `on` says so, the pixels of a picture of a scene's size got the bytes of the scene's; all other bytes are kept
pub record IsDrawnWhere (depth : ℕ) (bytes_of : Parts → List ℕ) (s : SceneView) (across : ℕ) (on : ℕ → ℕ → Bool) (old new : List ℕ) : Type 0 where
  pub pixels : EachPixelIs depth across s.w s.h (λ x y. cond (on x y) (bytes_of (scene_pixel s (pos x) (pos y))) (pixel_at depth across old x y)) new
  pub gaps : AreGapsKept depth across s.w s.h old new

-- the same at the points of a region
abbrev pub IsDrawnIn : ℕ → (Parts → List ℕ) → SceneView → ℕ → List Rect → List ℕ → List ℕ → Type 0
IsDrawnIn depth bytes_of s across region old new =
    IsDrawnWhere depth bytes_of s across (λ x y. covered region (pos x) (pos y)) old new

-- a picture in a buffer shows a scene: each pixel has the bytes of the scene's colour
pub record ShowsScene (depth : ℕ) (bytes_of : Parts → List ℕ) (across : ℕ) (s : SceneView) (bytes : List ℕ) : Type 0 where
  pub pixels : EachPixelIs depth across s.w s.h (λ x y. bytes_of (scene_pixel s (pos x) (pos y))) bytes
