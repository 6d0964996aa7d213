-- What was put is the file, or a prefix of it.
use Rattle.std.proofs.Common.{refl, Err}
use Rattle.byte_io.proofs.Puts.{piece_cause, piece_stops}
use Rattle.player_uses.proofs.Outputs.{fault_cause, fault_some}
use Rattle.player_uses.proofs.file.put_file.Goals as goal

pub returns-in-Err-clause-file : goal.returns-in-Err-clause-file
returns-in-Err-clause-file g c = fault_some _ _ _ c.args.file.now c.in-Err.fault _ c.from.ensures refl (piece_stops (Unit {0}) _ _ c.args.file.now c.in-Err.fault c.in-Err.ensures.bytes)

pub returns-in-Err-clause-cause : goal.returns-in-Err-clause-cause
returns-in-Err-clause-cause g c = fault_cause (Unit {0}) _ _ c.in-Err.fault _ c.from.ensures (piece_cause {X = Unit {0}} _ _ _ _ (Err c.in-Err.fault) c.in-Err.ensures.cause)
