-- The blocks so far were copied.
use Rattle.std.specs.Prelude.{◌≡◌, ◌≤◌, ◌-◌, length}
use Rattle.viz_canvas.specs.inner.Copies.{AreCopied}
use Rattle.viz_canvas.proofs.copying.copy_to_before.Given as given

abbrev pub invariant-loop-done : given.invariant-loop-done
invariant-loop-done l = record {
  size : length l.bytes ≡ length l.initial.bytes;
  done : l.done ≤ l.len;
  copied : AreCopied l.from l.to l.done l.initial.bytes l.bytes;
}

abbrev pub decreases-loop-done : given.decreases-loop-done
decreases-loop-done l = l.len - l.done
