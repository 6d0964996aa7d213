-- Sixteen bytes of the row.
use Rattle.std.proofs.Common.{refl, arith, ◌*◌}
use Rattle.pixel.proofs.LaneWise.{loaded}
use Rattle.pixel.proofs.Parts.{pixel_taken, run_premultiplied}
use Rattle.pixel.proofs.four.four_at.Goals as goal

pub returns-clause-bytes : goal.returns-clause-bytes
returns-clause-bytes c = loaded c.args.row.now (4 * c.args.k) (omega (arith, c.requires.inside)) c.type_inv.row

pub returns-clause-pixels : goal.returns-clause-pixels
returns-clause-pixels c = λ j lt. pixel_taken c.args.k 4 16 c.args.row.now j lt refl

pub returns-clause-premultiplied : goal.returns-clause-premultiplied
returns-clause-premultiplied c = run_premultiplied c.args.k 4 16 c.args.row.now refl c.requires.inside c.requires.premultiplied
