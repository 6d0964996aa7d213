use Rattle.pixel.specs.Colours.{blend}
use Rattle.pixel.specs.Rows.{ArePremultiplied}
use Rattle.pixel.specs.Surfaces.{EachPixel, within_rows}
use Rattle.pixel.proofs.surface.colour_over_area.Given as given

abbrev pub invariant-loop-row : given.invariant-loop-row
invariant-loop-row l = record {
  pixels : EachPixel l.size.width l.size.height (within_rows l.at l.row (λ x y below. blend below l.fn.colour)) l.initial.surface l.surface;
  premultiplied : ArePremultiplied l.initial.surface → ArePremultiplied l.surface;
}
