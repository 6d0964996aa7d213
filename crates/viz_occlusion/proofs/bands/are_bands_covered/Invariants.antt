-- The bands so far are covered.
use Rattle.std.specs.Prelude.{ℕ, ◌<◌, [], get_or}
use Rattle.viz_occlusion.specs.inner.Bands.{IsBlockOfBand}
use Rattle.viz_occlusion.proofs.bands.are_bands_covered.Given as given

abbrev pub invariant-loop-band : given.invariant-loop-band
invariant-loop-band l = (k : ℕ) → k < l.band → IsBlockOfBand k (get_or l.bands k []) l.left l.right l.top l.bottom
