-- The bytes of a packed pixel are its colour's.
use Rattle.std.proofs.Common.{arith}
use Rattle.pixel.specs.Rows.{pixel}
use Rattle.viz_canvas.proofs.Bytes.{rgb_bytes}
use Rattle.viz_canvas.proofs.rgb.RgbPixelFormat.write_row.Goals as goal

pub returns : goal.returns
returns c = λ k lt. rgb_bytes (pixel c.args.drawn.now k) k c.pack_row.new.packed (omega arith) (c.pack_row.ensures k lt)
