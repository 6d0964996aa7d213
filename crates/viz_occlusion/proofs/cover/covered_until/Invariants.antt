-- The columns so far are covered down to the end.
use Rattle.std.specs.Prelude.{◌≤ℤ◌, ◌<ℤ◌}
use Rattle.std.specs.Int.{int_gap}
use Rattle.viz_occlusion.specs.inner.Cover.{IsBlock}
use Rattle.viz_occlusion.proofs.cover.covered_until.Given as given

abbrev pub invariant-loop-x : given.invariant-loop-x
invariant-loop-x l = record {
  left : l.left ≤ℤ l.x;
  some : l.y <ℤ l.end;
  inside : l.end ≤ℤ l.bottom;
  block : IsBlock l.cover l.left l.x l.y l.end;
}

abbrev pub decreases-loop-x : given.decreases-loop-x
decreases-loop-x l = int_gap l.x l.right
