-- What is held is ready or in flight.
use Rattle.std.proofs.Common.{arith}
use Rattle.impl_tiles.proofs.ranks.in_flight.Goals as goal

pub overflow_sub-result : goal.overflow_sub-result
overflow_sub-result c = let u = c.used.ensures in let r = c.ready_count.ensures in omega (arith, u, r)

pub returns : goal.returns
returns c = let u = c.used.ensures in let r = c.ready_count.ensures in omega (arith, u, r)
