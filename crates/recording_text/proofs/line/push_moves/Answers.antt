-- Where a move is refused, what stood there before all of them still does.
use Rattle.std.specs.Io.{StartsWith}
use Rattle.recording_text.proofs.Kept.{kept_before, on_err}
use Rattle.recording_text.proofs.line.push_moves.Goals as goal

pub returns-in_err-push_move-clause-kept : goal.returns-in_err-push_move-clause-kept
returns-in_err-push_move-clause-kept c =
    on_err c.from_residual.result (StartsWith c.push_move.new.text.items c.args.text.now.items)
    (kept_before c.push_move.new.text.items c.loop-one.text.items c.args.text.now.items _ c.loop-one.invariant c.in_err-push_move.ensures.kept)
