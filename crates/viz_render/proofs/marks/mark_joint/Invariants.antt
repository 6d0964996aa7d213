-- The blocks so far are marked.
use Rattle.std.specs.Prelude.{◌+◌, ◌/◌, ◌≤◌}
use Rattle.viz_render.specs.inner.Drawing.{part_pixel}
use Rattle.viz_render.specs.inner.Masks.{Marks, HidesIn}
use Rattle.viz_render.proofs.marks.mark_joint.Given as given

abbrev pub invariant-loop-block : given.invariant-loop-block
invariant-loop-block l = record {
  from : (l.part.at.x + 15) / 16 ≤ l.block;
  marks : Marks l.number (HidesIn l.part.at (part_pixel l.image l.part)) l.initial.tops l.tops;
}
