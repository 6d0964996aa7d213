-- The bytes of clear pixels are 0.
use Rattle.std.proofs.Common.{arith, ◌+◌, ◌*◌}
use Rattle.pixel.proofs.Areas.{clear_pixel}
use Rattle.pixel.proofs.sixteen.are_sixteen_clear.Goals as goal

pub returns-then-are_clear : goal.returns-then-are_clear
returns-then-are_clear c = λ t j lt. clear_pixel c.args.row.now (4 * c.args.k) 64 (c.args.k + j) (c.is_clear.ensures t) (omega arith) (omega arith)
