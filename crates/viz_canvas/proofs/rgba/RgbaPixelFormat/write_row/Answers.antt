-- The bytes of a pixel are its colour's.
use Rattle.std.proofs.Common.{ℕ, List, ap, arith}
use Rattle.pixel.specs.Rows.{pixel}
use Rattle.viz_canvas.proofs.Bytes.{rgba_bytes}
use Rattle.viz_canvas.proofs.rgba.RgbaPixelFormat.write_row.Goals as goal

pub returns : goal.returns
returns c = λ k lt.
    rgba_bytes (pixel c.args.drawn.now k) k c.copy_from_slice.new.self (omega arith)
    (ap (λ (xs : List ℕ). pixel xs k) c.copy_from_slice.ensures.after)
