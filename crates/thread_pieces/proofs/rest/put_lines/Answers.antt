-- The lines were put, or a prefix of them; what was gained before is a prefix of all.
use Rattle.thread_pieces.proofs.PutSteps.{presents_nothing, puts_one, puts_present}
use Rattle.thread_pieces.proofs.rest.put_lines.Goals as goal

pub returns-in-Ok : goal.returns-in-Ok
returns-in-Ok g c =
    let e = c.put.ensures in
    puts_present g.K.Sink _ c.args.served c.put.result c.args.out.now c.put.new.self c.args.lines.now c.in-Ok.is
    (puts_one g.K.Sink c.args.out.now c.put.new.self c.args.lines.now c.put.result e.bytes e.grows e.refused e.cause e.place)

pub returns-in-Err : goal.returns-in-Err
returns-in-Err g c = presents_nothing g.K.Sink c.args.served c.in-Err.fault c.args.out.now c.args.lines.now c.in-Err.is
