-- What was served, and then what was left.
use Rattle.thread_pieces.specs.Ring.{joined}
use Rattle.thread_pieces.proofs.life.present_from.Goals as goal

pub returns-in-Ok-clause-bytes : goal.returns-in-Ok-clause-bytes
returns-in-Ok-clause-bytes g c = c.settle.ensures.bytes (g.K.Sink.held c.args.out.now) (joined c.args.pieces.now) c.run-ran.ensures.put c.run-ran.ensures.bytes

pub returns-in-Ok-clause-cause : goal.returns-in-Ok-clause-cause
returns-in-Ok-clause-cause g c = c.settle.ensures.cause (g.K.Sink.faults c.args.out.now) c.run-ran.ensures.faults c.run-ran.ensures.cause
