use Rattle.pixel.specs.Rows.{ArePremultiplied}
use Rattle.tile_raster.specs.inner.Patches.{AreDrawnTo}
use Rattle.tile_raster.proofs.patches.draw_patches.Given as given

-- the rows of the picture so far are drawn
abbrev pub invariant-loop-y : given.invariant-loop-y
invariant-loop-y l = record {
  drawn : AreDrawnTo l._list l.fn.rect l.places l.y l.bytes;
  premultiplied : ArePremultiplied l.bytes;
}
