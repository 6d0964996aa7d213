use Rattle.std.proofs.Common.{◌≤◌, ◌+◌, ◌-◌}
use Rattle.pixel.specs.Colours.{blend}
use Rattle.pixel.specs.Rows.{pixel, ArePremultiplied}
use Rattle.pixel.specs.Surfaces.{EachPixel, within_rows}
use Rattle.pixel.specs.inner.Columns.{columns_of}
use Rattle.pixel.proofs.rows.row_over_columns.Given as given

abbrev pub invariant-runs : given.invariant-runs
invariant-runs l = record {
  inside : l.done ≤ l.at.w;
  pixels : EachPixel l.size.width l.size.height (within_rows (columns_of l.at 0 l.done) l.at.h (λ x y below. blend below (pixel l.row (x - l.at.x + l.from)))) l.fn.surface l.surface;
  premultiplied : ArePremultiplied l.fn.surface → ArePremultiplied l.surface;
}

abbrev pub decreases-runs : given.decreases-runs
decreases-runs l = l.at.w - l.done

abbrev pub invariant-fours : given.invariant-fours
invariant-fours l = record {
  inside : l.done ≤ l.at.w;
  pixels : EachPixel l.size.width l.size.height (within_rows (columns_of l.at 0 l.done) l.at.h (λ x y below. blend below (pixel l.row (x - l.at.x + l.from)))) l.fn.surface l.surface;
  premultiplied : ArePremultiplied l.fn.surface → ArePremultiplied l.surface;
}

abbrev pub decreases-fours : given.decreases-fours
decreases-fours l = l.at.w - l.done

abbrev pub invariant-ones : given.invariant-ones
invariant-ones l = record {
  inside : l.done ≤ l.at.w;
  pixels : EachPixel l.size.width l.size.height (within_rows (columns_of l.at 0 l.done) l.at.h (λ x y below. blend below (pixel l.row (x - l.at.x + l.from)))) l.fn.surface l.surface;
  premultiplied : ArePremultiplied l.fn.surface → ArePremultiplied l.surface;
}

abbrev pub decreases-ones : given.decreases-ones
decreases-ones l = l.at.w - l.done
