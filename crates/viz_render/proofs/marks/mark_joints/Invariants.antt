-- The blocks so far are marked.
use Rattle.std.specs.Prelude.{◌+◌, ◌/◌, ◌≤◌}
use Rattle.viz_render.specs.inner.Drawing.{part_pixel}
use Rattle.viz_render.specs.inner.Masks.{Marks, HidesIn}
use Rattle.viz_render.proofs.marks.mark_joints.Given as given

abbrev pub invariant-loop-down : given.invariant-loop-down
invariant-loop-down l = record {
  from : (l.part.at.y + 7) / 8 ≤ l.down;
  marks : Marks l.number (HidesIn l.part.at (part_pixel l.image l.part)) l.initial.tops l.tops;
}
