use Rattle.std.specs.Prelude.{◌+◌, ◌-◌}
use Rattle.pixel.specs.Colours.{blend, scaled}
use Rattle.pixel.specs.Rows.{ArePremultiplied}
use Rattle.pixel.specs.Surfaces.{EachPixel, within_rows}
use Rattle.pixel.specs.Views.{pixel_in}
use Rattle.viz_render.proofs.group.fade_part.Given as given

abbrev pub invariant-loop-row : given.invariant-loop-row
invariant-loop-row l = record {
  pixels : EachPixel l.size.width l.size.height (within_rows l.part.at l.row (λ x y below. blend below (scaled (pixel_in l.pass (x - l.part.at.x + l.part.left) (y - l.part.at.y + l.part.above)) l.opacity))) l.initial.surface l.surface;
  premultiplied : ArePremultiplied l.initial.surface → ArePremultiplied l.surface;
}
