-- The bytes of a written pixel are its colour's.
use Rattle.std.proofs.Common.{arith}
use Rattle.pixel.specs.Rows.{pixel}
use Rattle.viz_canvas.proofs.Bytes.{bgra_bytes}
use Rattle.viz_canvas.proofs.bgra.BgraPixelFormat.write_row.Goals as goal

pub returns : goal.returns
returns c = λ k lt. bgra_bytes (pixel c.args.drawn.now k) k c.loop-place.bytes (omega arith) (c.loop-place.invariant k (omega arith))
