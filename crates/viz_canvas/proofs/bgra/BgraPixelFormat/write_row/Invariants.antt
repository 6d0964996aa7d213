-- The pixels so far are written.
use Rattle.viz_canvas.specs.inner.Packing.{AreTurned}
use Rattle.viz_canvas.proofs.bgra.BgraPixelFormat.write_row.Given as given

abbrev pub invariant-loop-place : given.invariant-loop-place
invariant-loop-place l = AreTurned l.place l.drawn l.bytes
