-- The columns so far are painted.
use Rattle.std.specs.Prelude.{◌≤◌, ◌-◌}
use Rattle.pixel.specs.Rows.{ArePremultiplied}
use Rattle.pixel.specs.Surfaces.{within_rows}
use Rattle.viz_render.specs.inner.Drawing.{columns_from}
use Rattle.viz_render.specs.inner.Masks.{EachOpen}
use Rattle.viz_render.specs.inner.Paints.{painted}
use Rattle.viz_render.proofs.open.paint_columns.Given as given

abbrev pub invariant-loop-done : given.invariant-loop-done
invariant-loop-done l = record {
  inside : l.done ≤ l.part.at.w;
  pixels : EachOpen l.size.width l.size.height l.tops l.number (within_rows (columns_from l.part.at 0 l.done) l.part.at.h (painted l.paint l.part)) l.initial.surface l.surface;
  premultiplied : ArePremultiplied l.initial.surface → ArePremultiplied l.surface;
}

abbrev pub decreases-loop-done : given.decreases-loop-done
decreases-loop-done l = l.part.at.w - l.done
