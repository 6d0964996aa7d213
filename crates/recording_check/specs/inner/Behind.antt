-- What stands after a prefix of bytes, and what the pixels of a painting are as bytes.
use Rattle.std.specs.Prelude.{ℕ, zero, suc, pos, ◌==◌, cond, List, [], ◌∷◌, Option, Some, None, option_and_then}
use Rattle.geom.specs.declared.rect.Point.{Point}
use Rattle.geom.specs.declared.tile.TileKey.{TileKey}
use Rattle.pixel.specs.Colours.{Parts}
use Rattle.page_layers.specs.Pages.{Page}
use Rattle.page_layers.specs.TreePainting.{paint}
use Rattle.model_history.specs.Recordings.{rgb, image_row}

-- what stands after a prefix; none if the bytes do not begin with it
abbrev pub behind : List ℕ → List ℕ → Option (List ℕ)
behind [] xs = Some xs
behind (c ∷ cs) [] = None
behind (c ∷ cs) (x ∷ xs) = cond (c == x) (behind cs xs) None

-- what stands after f 0, f 1, .., f (n - 1), one after another
abbrev pub behind_each : ℕ → (ℕ → List ℕ) → List ℕ → Option (List ℕ)
behind_each zero f xs = Some xs
behind_each (suc n) f xs = option_and_then (behind (f n)) (behind_each n f xs)

-- what the screen shows at column x and row y
abbrev pub pixel_of : Page → (ℕ → Point) → List TileKey → Parts → ℕ → ℕ → Parts
pixel_of p offset missing background x y = paint p offset missing background (pos x) (pos y)

-- the pixel at column x of row y, and the first w pixels of row y, as bytes
abbrev pub pixel_text : (ℕ → ℕ → Parts) → ℕ → ℕ → List ℕ
pixel_text pixel y x = rgb (pixel x y)

abbrev pub row_text : (ℕ → ℕ → Parts) → ℕ → ℕ → List ℕ
row_text pixel w y = image_row pixel w y
