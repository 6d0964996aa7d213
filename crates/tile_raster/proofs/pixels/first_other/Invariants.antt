use Rattle.std.proofs.Common.{ℕ, ◌≡◌, ◌<◌}
use Rattle.pixel.specs.Rows.{pixel}
use Rattle.tile_raster.proofs.pixels.first_other.Given as given

abbrev pub invariant-loop-k : given.invariant-loop-k
invariant-loop-k l = (j : ℕ) → j < l.k → pixel l.row j ≡ l.colour
