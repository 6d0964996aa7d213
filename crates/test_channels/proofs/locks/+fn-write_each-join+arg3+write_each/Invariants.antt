use Rattle.std.proofs.Common.{vec_len, ◌+◌, ◌*◌}
use Rattle.test_channels.proofs.locks.+fn-write_each-join+arg3+write_each.Given as goal

abbrev pub decreases-join+arg3 : goal.decreases-join+arg3
decreases-join+arg3 g l = 2 * vec_len l.passes + 1

abbrev pub decreases-write_each : goal.decreases-write_each
decreases-write_each g l = 2 * vec_len l.passes
