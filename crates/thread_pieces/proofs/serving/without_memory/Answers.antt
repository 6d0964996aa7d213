-- What was gained before is a prefix of all.
use Rattle.thread_pieces.proofs.PutSteps.{presents_nothing, presents_refused}
use Rattle.thread_pieces.proofs.serving.without_memory.Goals as goal

pub returns-in-Ok-clause-steps : goal.returns-in-Ok-clause-steps
returns-in-Ok-clause-steps g c = λ bytes. presents_refused g.K.Sink _ c.args.state c.args.refused c.args.out.now bytes c.in-Ok.is

pub returns-in-Err-clause-steps : goal.returns-in-Err-clause-steps
returns-in-Err-clause-steps g c = λ bytes. presents_nothing g.K.Sink c.args.state c.in-Err.fault c.args.out.now bytes c.in-Err.is
