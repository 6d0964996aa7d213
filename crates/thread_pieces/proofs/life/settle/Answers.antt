use Rattle.thread_pieces.specs.Ring.{whole}
use Rattle.thread_pieces.proofs.RingGains.{blamed_for_all, gained_of_all}
use Rattle.thread_pieces.proofs.life.settle.Goals as goal

pub returns-clause-bytes : goal.returns-clause-bytes
returns-clause-bytes g c = λ first bytes filled gained. rw c.both_answer.ensures (gained_of_all c.finish-finished.result c.args.ran.put first (g.K.Sink.held c.finish-finished.new.out) (whole c.args.ran.sink) bytes (c.finish-finished.ensures.bytes first gained) filled)

pub returns-clause-cause : goal.returns-clause-cause
returns-clause-cause g c = λ count few rose. rw c.both_answer.ensures (blamed_for_all c.finish-finished.result c.args.ran.put count (g.K.Sink.faults c.finish-finished.new.out) c.requires.memory (c.finish-finished.ensures.cause count few rose))
