-- The least alpha so far.
use Rattle.std.proofs.Common.{ℕ, ◌≡◌, ◌<◌, ◌≤◌, ◌⊎◌}
use Rattle.pixel.specs.Rows.{pixel}
use Rattle.tile_raster.specs.inner.Bands.{IsAlphaIn}
use Rattle.tile_raster.proofs.opaque.least_alpha.Given as given

abbrev pub invariant-loop-k : given.invariant-loop-k
invariant-loop-k l = record {
  least : (j : ℕ) → j < l.k → (l.least ≤ (pixel l.row j).a) × ((pixel l.row j).a ≤ 255);
  there : (l.least ≡ 255) ⊎ IsAlphaIn l.row l.least;
}
