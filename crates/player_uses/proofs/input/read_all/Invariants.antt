-- What was read so far is what the source has given since.
use Rattle.std.proofs.Common.{◌≡◌, ◌+◌, ◌-◌, ◌≤◌, vec_len}
use Rattle.byte_io.specs.Logs.{Gave}
use Rattle.player_uses.proofs.input.read_all.Given as goal

abbrev pub invariant-loop-bytes : goal.invariant-loop-bytes
invariant-loop-bytes g l =
    Gave (g.S.Source.given l.fn.source) (g.S.Source.given l.source) l.bytes.items
    × (g.S.Source.faults l.source ≡ g.S.Source.faults l.fn.source)
    × (vec_len l.bytes ≤ l.limit + 1)
    × (vec_len l.buffer ≡ 65536)

abbrev pub decreases-loop-bytes : goal.decreases-loop-bytes
decreases-loop-bytes g l = (l.limit + 1) - vec_len l.bytes
