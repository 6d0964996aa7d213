-- The picture of an image as a PNG file.
use Rattle.std.specs.Prelude.{◌≡◌, ℕ, List, ◌++◌, Some}
use Rattle.model_history.specs.Recordings.{image_head}
use Rattle.recording_png.specs.Pictures.{Picture, read_png}

-- read as a PNG file it has the size and the pixels of this image
abbrev pub IsFileOf : List ℕ → List ℕ → Type 0
IsFileOf image file = (p : Picture) × (read_png file ≡ Some p) × (image_head p.width p.height ++ p.pixels ≡ image)
