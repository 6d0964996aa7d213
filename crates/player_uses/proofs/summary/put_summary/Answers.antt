-- What was put is the line, or a prefix of it.
use Rattle.std.proofs.Common.{Err}
use Rattle.byte_io.proofs.Puts.{piece_cause}
use Rattle.player_uses.proofs.Outputs.{fault_cause, fault_some}
use Rattle.player_uses.proofs.summary.put_summary.Goals as goal

pub returns-in-Ok-clause-output : goal.returns-in-Ok-clause-output
returns-in-Ok-clause-output g c = (_, c.line.ensures, c.in-Ok.ensures.bytes)

pub returns-in-Err-clause-output : goal.returns-in-Err-clause-output
returns-in-Err-clause-output g c = fault_some _ _ _ _ c.in-Err.fault _ c.from.ensures c.line.ensures c.in-Err.ensures.bytes

pub returns-in-Err-clause-cause : goal.returns-in-Err-clause-cause
returns-in-Err-clause-cause g c = fault_cause (Unit {0}) _ _ c.in-Err.fault _ c.from.ensures (piece_cause {X = Unit {0}} _ _ _ _ (Err c.in-Err.fault) c.in-Err.ensures.cause)
