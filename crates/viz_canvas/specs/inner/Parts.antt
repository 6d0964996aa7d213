-- What is drawn into a part of a picture, however its pixels are read.
use Rattle.std.specs.Prelude.{◌≡◌, ℕ, ◌+◌, ◌*◌, ◌<◌, ◌≤◌, cond, List}
use Rattle.pixel.specs.Surfaces.{in_rows}
use Rattle.pixel.specs.declared.surface.Area.{Area}

-- pixels `k` to `k + n` were changed by `g`, which is told a pixel's place among them and what was there; no other changed
pub record PartOf {C : Type 0} (read : List ℕ → ℕ → C) (k n : ℕ) (g : ℕ → C → C) (old new : List ℕ) : Type 0 where
  pub inside : (j : ℕ) → j < n → read new (k + j) ≡ g j (read old (k + j))
  pub before : (i : ℕ) → i < k → read new i ≡ read old i
  pub behind : (i : ℕ) → k + n ≤ i → read new i ≡ read old i

-- each pixel of a picture was changed by `f`, which is told its column, its row and what was there
abbrev pub EachOf : {C : Type 0} → (List ℕ → ℕ → C) → ℕ → ℕ → (ℕ → ℕ → C → C) → List ℕ → List ℕ → Type 0
EachOf read width height f old new =
    (x y : ℕ) → x < width → y < height → read new (y * width + x) ≡ f x y (read old (y * width + x))

-- `g` in the first rows of an area, and nothing elsewhere
abbrev pub only_in : {C : Type 0} → Area → ℕ → (ℕ → ℕ → C → C) → ℕ → ℕ → C → C
only_in at rows g x y below = cond (in_rows at rows x y) (g x y below) below
