-- Areas of a picture whose pixels came from other rows.
use Rattle.std.specs.Prelude.{ℕ, ◌+◌, ◌-◌, ◌*◌, List}
use Rattle.pixel.specs.declared.surface.Area.{Area}
use Rattle.viz_canvas.specs.declared.band.Band.{Band}
use Rattle.viz_canvas.specs.Formats.{bytes_at}
use Rattle.viz_canvas.specs.inner.Parts.{EachOf, only_in}

-- what the same column of the row had that is as many rows below row `from` as row `y` is below the top of an area
abbrev pub moved_pixel : {C : Type 0} → (List ℕ → ℕ → C) → ℕ → Area → ℕ → List ℕ → ℕ → ℕ → C → C
moved_pixel read across at from old x y below = read old ((from + (y - at.y)) * across + x)

-- the pixels of an area are those that stood in the same columns of as many rows from row `from` on; all others are kept
abbrev pub IsAreaMoved : ℕ → Band → Area → ℕ → List ℕ → List ℕ → Type 0
IsAreaMoved depth band at from old new =
    EachOf (bytes_at depth) band.across band.rows (only_in at at.h (moved_pixel (bytes_at depth) band.across at from old)) old new
