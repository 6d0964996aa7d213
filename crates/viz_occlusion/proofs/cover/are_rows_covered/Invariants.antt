-- The rows so far are covered.
use Rattle.std.specs.Prelude.{◌≤ℤ◌}
use Rattle.std.specs.Int.{int_gap}
use Rattle.viz_occlusion.specs.inner.Cover.{IsBlock}
use Rattle.viz_occlusion.proofs.cover.are_rows_covered.Given as given

abbrev pub invariant-loop-y : given.invariant-loop-y
invariant-loop-y l = record { top : l.top ≤ℤ l.y; block : IsBlock l.cover l.left l.right l.top l.y }

abbrev pub decreases-loop-y : given.decreases-loop-y
decreases-loop-y l = int_gap l.y l.bottom
