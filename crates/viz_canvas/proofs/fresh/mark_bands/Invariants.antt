-- The bands so far are marked.
use Rattle.std.specs.Prelude.{◌-◌, ◌≡◌, length}
use Rattle.viz_canvas.specs.inner.Fresh.{StaysMarked, AreBands}
use Rattle.viz_canvas.proofs.fresh.mark_bands.Given as given

abbrev pub invariant-loop-done : given.invariant-loop-done
invariant-loop-done l = record {
  size : length l.fresh ≡ length l.initial.fresh;
  keeps : StaysMarked l.initial.fresh l.fresh;
  bands : AreBands l.image l.part l.down l.done l.fresh;
}

abbrev pub decreases-loop-done : given.decreases-loop-done
decreases-loop-done l = l.part.at.h - l.done
