-- The rows so far are marked.
use Rattle.std.specs.Prelude.{◌-◌, ◌≤◌}
use Rattle.viz_render.specs.inner.Drawing.{part_pixel}
use Rattle.viz_render.specs.inner.Masks.{Marks, HidesIn}
use Rattle.viz_render.proofs.marks.mark_bands.Given as given

abbrev pub invariant-loop-done : given.invariant-loop-done
invariant-loop-done l = record {
  inside : l.done ≤ l.part.at.h;
  marks : Marks l.number (HidesIn l.part.at (part_pixel l.image l.part)) l.initial.tops l.tops;
}

abbrev pub decreases-loop-done : given.decreases-loop-done
decreases-loop-done l = l.part.at.h - l.done
