-- The blocks so far are marked.
use Rattle.std.specs.Prelude.{◌+◌, ◌-◌, ◌/◌, ◌≤◌}
use Rattle.pixel.specs.Rows.{pixel}
use Rattle.viz_render.specs.inner.Masks.{Marks, HidesIn}
use Rattle.viz_render.proofs.marks.mark_row.Given as given

abbrev pub invariant-loop-block : given.invariant-loop-block
invariant-loop-block l = record {
  from : (l.at.x + 15) / 16 ≤ l.block;
  marks : Marks l.number (HidesIn l.at (λ x y. pixel l.row (x - l.at.x + l.from))) l.initial.tops l.tops;
}
