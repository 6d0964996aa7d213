-- The rows so far, and those without a mark after them.
use Rattle.std.specs.Prelude.{◌-◌, ◌+◌, ◌≤◌}
use Rattle.viz_canvas.proofs.strip.rows_to_draw.Given as given

abbrev pub invariant-loop-rows : given.invariant-loop-rows
invariant-loop-rows l = record {
  some : 1 ≤ l.rows;
  most : l.rows + l.alike ≤ l.most;
}

abbrev pub decreases-loop-rows : given.decreases-loop-rows
decreases-loop-rows l = l.most - (l.rows + l.alike)
