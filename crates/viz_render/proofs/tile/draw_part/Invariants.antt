use Rattle.std.proofs.Common.{◌≤◌, ◌-◌}
use Rattle.pixel.specs.Colours.{blend}
use Rattle.pixel.specs.Rows.{ArePremultiplied}
use Rattle.pixel.specs.Surfaces.{within_rows}
use Rattle.viz_render.specs.inner.Drawing.{part_pixel}
use Rattle.viz_render.specs.inner.Masks.{EachOpen}
use Rattle.viz_render.proofs.tile.draw_part.Given as given

abbrev pub invariant-loop-done : given.invariant-loop-done
invariant-loop-done l = record {
  inside : l.done ≤ l.part.at.h;
  pixels : EachOpen l.size.width l.size.height l.seen.mask.now.tops l.seen.number (within_rows l.part.at l.done (λ x y below. blend below (part_pixel l.image l.part x y))) l.fn.surface l.surface;
  premultiplied : ArePremultiplied l.fn.surface → ArePremultiplied l.surface;
}

abbrev pub decreases-loop-done : given.decreases-loop-done
decreases-loop-done l = l.part.at.h - l.done
