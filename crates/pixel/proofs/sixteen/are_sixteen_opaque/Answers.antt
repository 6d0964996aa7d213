-- Opaque pixels hide what lies below them.
use Rattle.std.proofs.Common.{arith, ◌+◌, ◌*◌}
use Rattle.pixel.proofs.Areas.{opaque_laid}
use Rattle.pixel.proofs.sixteen.are_sixteen_opaque.Goals as goal

pub returns : goal.returns
returns c = λ t j lt below.
    opaque_laid c.args.row.now (4 * c.args.k) 64 (c.args.k + j) below (c.is_opaque.ensures t) (omega arith) (omega arith)
