-- The first hand's pieces, and then those of the others.
use Rattle.std.proofs.Common.{◌∙◌, arith}
use Rattle.thread_pieces.specs.Shots.{all_due, due_of}
use Rattle.thread_pieces.proofs.hands.put_beside.Goals as goal

pub returns : goal.returns
returns g c =
    let first = c.work_beside-worked.ensures in
    let then = c.put_others.ensures in
    record {
      bytes = then.bytes (g.K.Sink.held c.args.out.now) (due_of c.args.first.now) (all_due c.args.others.now) first.put.bytes first.worked;
      grows = omega (arith, first.put.grows, then.grows);
      refusals = omega (arith, first.put.refusals, then.refusals);
      cause = then.cause (g.K.Sink.faults c.args.out.now) first.put.grows first.put.cause;
      place = then.place ∙ first.put.place;
    }
