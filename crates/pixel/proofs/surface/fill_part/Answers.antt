-- The run of one colour stands in place of the run before.
use Rattle.std.proofs.Common.{arith}
use Rattle.pixel.proofs.Parts.{part_made}
use Rattle.pixel.proofs.surface.fill_part.Goals as goal

pub returns : goal.returns
returns c =
    part_made c.args.k c.args.n (λ j below. c.args.colour) c.args.surface.now c.fill_row.new.dst (omega arith) (omega arith)
    (λ j lt. c.fill_row.ensures.pixels j (omega arith))
    (λ _. c.fill_row.ensures.premultiplied)
