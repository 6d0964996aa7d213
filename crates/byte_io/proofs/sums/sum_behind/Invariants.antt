-- The sum so far and the bytes that are left give the sum of all.
use Rattle.std.proofs.Common.{◌≡◌, ◌+◌, ◌%◌, ◌^◌, length}
use Rattle.byte_io.specs.Sums.{byte_sum}
use Rattle.byte_io.proofs.sums.sum_behind.Given as goal

abbrev pub invariant-loop-rest : goal.invariant-loop-rest
invariant-loop-rest l = (l.sum + byte_sum l.rest) % 2 ^ 64 ≡ (l.before + byte_sum l.bytes) % 2 ^ 64

abbrev pub decreases-loop-rest : goal.decreases-loop-rest
decreases-loop-rest l = length l.rest
