use Rattle.std.proofs.Common.{◌+◌, ◌-◌}
use Rattle.pixel.specs.Rows.{pixel, ArePremultiplied}
use Rattle.pixel.specs.Surfaces.{EachPixel, within_rows}
use Rattle.pixel.proofs.rows.copy_over_rows.Given as given

abbrev pub invariant-loop-down : given.invariant-loop-down
invariant-loop-down l = record {
  pixels : EachPixel l.size.width l.size.height (within_rows l.at l.down (λ x y below. pixel l.row (l.from + (x - l.at.x)))) l.initial.surface l.surface;
  premultiplied : ArePremultiplied l.initial.surface → ArePremultiplied l.surface;
}
