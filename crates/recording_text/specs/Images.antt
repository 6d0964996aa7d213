-- Images among bytes.
use Rattle.std.specs.Prelude.{◌≡◌, ℕ, nat_eq, nat_le, ◌+◌, ◌*◌, if◌then◌else◌, List, [], ◌∷◌, ◌++◌, codes, decimal, length, take, drop, Option, Some, None}
use Rattle.std.specs.List.{starts_with}
use Rattle.model_history.specs.Recordings.{image_head}
use Rattle.recording_text.specs.Numbers.{◌>>=◌}

-- how many bytes the pixels of an image take: three each
abbrev pub picture_size : ℕ → ℕ → ℕ
picture_size w h = 3 * (w * h)

-- red, green and blue of pixels of four bytes each
abbrev pub rgb_of : List ℕ → List ℕ
rgb_of (r ∷ g ∷ b ∷ a ∷ rest) = r ∷ g ∷ b ∷ rgb_of rest
rgb_of _ = []

-- the bytes begin with an image of this size, whose pixels are these bytes
abbrev pub BeginsWithImage : List ℕ → ℕ → ℕ → List ℕ → Type 0
BeginsWithImage xs w h picture = (length picture ≡ picture_size w h) × ((rest : List ℕ) × (xs ≡ (image_head w h ++ picture) ++ rest))

-- what stands after a prefix
unfoldable pub after_front : List ℕ → List ℕ → Option (List ℕ)
after_front front xs = if starts_with nat_eq xs front then Some (drop (length front) xs) else None

-- what stands after the head of an image of this size
unfoldable pub behind_head : ℕ → ℕ → List ℕ → Option (List ℕ)
behind_head w h xs = do
  kind ← after_front (codes "P6\n") xs
  width ← after_front (decimal w) kind
  space ← after_front (codes " ") width
  height ← after_front (decimal h) space
  after_front (codes "\n255\n") height

-- the first bytes of a list, if it has that many
unfoldable pub first_bytes : ℕ → List ℕ → Option (List ℕ)
first_bytes n xs = if nat_le n (length xs) then Some (take n xs) else None

-- the pixels of an image of this size at the start
unfoldable pub picture_at : ℕ → ℕ → List ℕ → Option (List ℕ)
picture_at w h xs = do
  rest ← behind_head w h xs
  first_bytes (picture_size w h) rest

-- the length of the image of this size at the start
unfoldable pub image_length : ℕ → ℕ → List ℕ → Option ℕ
image_length w h xs = do
  picture ← picture_at w h xs
  Some (length (image_head w h) + length picture)
