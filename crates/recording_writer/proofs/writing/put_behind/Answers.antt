-- The lines, and then the bytes.
use Rattle.byte_io.proofs.Puts.{puts_piece}
use Rattle.thread_pieces.proofs.Gains.{gains_longer}
use Rattle.recording_writer.proofs.Gains.{behind_written}
use Rattle.recording_writer.proofs.writing.put_behind.Goals as goal

pub returns-in-Err-clause-bytes : goal.returns-in-Err-clause-bytes
returns-in-Err-clause-bytes g c = gains_longer _ _ _ c.args.bytes.now c.in-Err.ensures.bytes

pub returns-clause-bytes : goal.returns-clause-bytes
returns-clause-bytes g c = behind_written c.put.result _ _ _ c.args.lines.now.items c.args.bytes.now _ c.in_default.ensures.bytes c.in_default.ensures.empty (puts_piece _ _ _ c.put.result c.put.ensures.bytes)
