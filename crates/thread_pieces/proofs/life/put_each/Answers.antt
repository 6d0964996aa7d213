use Rattle.std.proofs.Common.{◌∙◌}
use Rattle.thread_pieces.specs.Ring.{whole}
use Rattle.thread_pieces.proofs.RingGains.{gains_pieces, refusal_keeps}
use Rattle.thread_pieces.proofs.life.put_each.Goals as goal

pub returns-in-Err-clause-bytes : goal.returns-in-Err-clause-bytes
returns-in-Err-clause-bytes c = gains_pieces c.loop-piece.piece-index c.args.pieces.now (whole c.args.sink.now) (whole c.put.new.self) (refusal_keeps c.in-Err.fault (whole c.loop-piece.sink) (whole c.put.new.self) _ c.in-Err.ensures.bytes c.in-Err.ensures.answers ∙ c.loop-piece.invariant.bytes)
