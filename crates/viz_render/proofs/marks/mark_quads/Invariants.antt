-- The last quads are marked.
use Rattle.std.specs.Prelude.{◌≤◌, ◌≡◌, length}
use Rattle.viz_render.specs.inner.Masks.{AreMarked, HaveNumbers}
use Rattle.viz_render.proofs.marks.mark_quads.Given as given

abbrev pub invariant-loop-number : given.invariant-loop-number
invariant-loop-number l = record {
  some : l.number ≤ length l.quads;
  size : length l.tops ≡ 1032;
  marked : AreMarked l.area l.quads l.tops;
  numbers : HaveNumbers (length l.quads) l.initial.tops l.tops;
}

abbrev pub decreases-loop-number : given.decreases-loop-number
decreases-loop-number l = l.number
