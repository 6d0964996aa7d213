-- All bytes were laid.
use Rattle.std.proofs.Common.{arith}
use Rattle.pixel.proofs.Parts.{laid_premultiplied}
use Rattle.pixel.proofs.row.over_row.Goals as goal

pub returns-clause-premultiplied : goal.returns-clause-premultiplied
returns-clause-premultiplied c = λ old.
    laid_premultiplied c.ones.at c.args.src.now c.args.dst.now c.ones.dst c.ones.invariant.laid (omega arith) (omega arith)
    (omega arith) (omega arith) c.requires.premultiplied old
