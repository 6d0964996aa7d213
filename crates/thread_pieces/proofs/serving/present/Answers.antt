-- The pieces were put, or a prefix of them; what was gained before is a prefix of all.
use Rattle.thread_pieces.specs.Shots.{all_shown}
use Rattle.thread_pieces.proofs.PutSteps.{presents_nothing, puts_present}
use Rattle.thread_pieces.proofs.serving.present.Goals as goal

pub returns-in-Ok : goal.returns-in-Ok
returns-in-Ok g c =
    let e = c.put.ensures in
    puts_present g.K.Sink _ c.args.state c.put.result c.args.out.now c.put.new.out (all_shown c.args.pieces.items) c.in-Ok.is
    (record { bytes = e.bytes; grows = e.grows; refusals = e.refusals; cause = e.cause; place = e.place })

pub returns-in-Err : goal.returns-in-Err
returns-in-Err g c = presents_nothing g.K.Sink c.args.state c.in-Err.fault c.args.out.now (all_shown c.args.pieces.items) c.in-Err.is
