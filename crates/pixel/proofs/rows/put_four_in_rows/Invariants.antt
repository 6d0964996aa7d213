use Rattle.std.proofs.Common.{◌-◌}
use Rattle.pixel.specs.Rows.{pixel, ArePremultiplied}
use Rattle.pixel.specs.Surfaces.{EachPixel, within_rows}
use Rattle.pixel.proofs.rows.put_four_in_rows.Given as given

abbrev pub invariant-loop-row : given.invariant-loop-row
invariant-loop-row l = record {
  pixels : EachPixel l.size.width l.size.height (within_rows l.at l.row (λ x y below. pixel l.pixels (x - l.at.x))) l.initial.surface l.surface;
  premultiplied : ArePremultiplied l.initial.surface → ArePremultiplied l.surface;
}
