-- The bytes that are not left were copied.
use Rattle.std.specs.Prelude.{◌≡◌, ◌+◌, ◌-◌, ◌≤◌, length}
use Rattle.viz_canvas.specs.inner.Copies.{AreCopied}
use Rattle.viz_canvas.proofs.copying.copy_to_after.Given as given

abbrev pub invariant-loop-left : given.invariant-loop-left
invariant-loop-left l = record {
  size : length l.bytes ≡ length l.initial.bytes;
  left : l.left ≤ l.len;
  copied : AreCopied (l.from + l.left) (l.to + l.left) (l.len - l.left) l.initial.bytes l.bytes;
}

abbrev pub decreases-loop-left : given.decreases-loop-left
decreases-loop-left l = l.left
