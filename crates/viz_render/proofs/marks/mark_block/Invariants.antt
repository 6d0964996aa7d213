-- The blocks so far are marked.
use Rattle.std.specs.Prelude.{◌+◌, ◌/◌, ◌≤◌}
use Rattle.viz_render.specs.inner.Masks.{Marks, IsOfBlock}
use Rattle.viz_render.proofs.marks.mark_block.Given as given

abbrev pub invariant-loop-down : given.invariant-loop-down
invariant-loop-down l = record {
  from : (l.fn.at.y + 7) / 8 ≤ l.down;
  marks : Marks l.number (IsOfBlock l.fn.at l.block) l.initial.tops l.tops;
}
