-- The bands so far have the points of the rect.
use Rattle.std.specs.Prelude.{◌≡◌, length}
use Rattle.viz_occlusion.specs.inner.Bands.{GainsFrom}
use Rattle.viz_occlusion.proofs.bands.add_to_bands.Given as given

abbrev pub invariant-loop-band : given.invariant-loop-band
invariant-loop-band l = record {
  many : length l.bands.items ≡ length l.fn.bands.items;
  gains : GainsFrom l.first l.band l.fn.bands.items l.bands.items l.rect;
}
