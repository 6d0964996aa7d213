-- A piece that could not be kept was taken too.
use Rattle.std.proofs.Common.{rules, ◌+◌, ◌≤◌, length, arith}
use Rattle.player_uses.proofs.Told.{gave_more, take_few}
use Rattle.player_uses.proofs.input.read_all.Goals as goal

pub returns-in_err-taken-clause-reads : goal.returns-in_err-taken-clause-reads
returns-in_err-taken-clause-reads g c =
    let few = take_few c.min-room.result c.deref_mut.result.now in
    let room : length c.loop-bytes.bytes.items + c.min-room.result ≤ c.args.limit + 1 = search rules in
    gave_more c.args.limit _ _ _ _ c.loop-bytes.bytes.items c.loop-bytes.invariant.0 c.read_piece.ensures.reads (omega (arith, few, room))
