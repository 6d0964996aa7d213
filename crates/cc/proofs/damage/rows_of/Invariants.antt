-- The rows take in those of the rects so far.
use Rattle.std.specs.Prelude.{◌≡◌, ℕ, ℤ, pos, false, take}
use Rattle.region.specs.Points.{covered}
use Rattle.cc.specs.Compositors.{has_row}
use Rattle.cc.proofs.damage.rows_of.Given as given

abbrev pub invariant-loop-rect : given.invariant-loop-rect
invariant-loop-rect l = (x : ℤ) → (y : ℕ) → has_row l.rows y ≡ false → covered (take l.rect-index l.rects) x (pos y) ≡ false
