-- What was served before a step, and what the step took.
use Rattle.std.proofs.Common.{◌∙◌, arith}
use Rattle.thread_pieces.specs.Ring.{bytes_taken}
use Rattle.thread_pieces.proofs.RingGains.{served_on}
use Rattle.thread_pieces.proofs.ends.Presenter.serve.Goals as goal

pub returns-then-ended-clause-bytes : goal.returns-then-ended-clause-bytes
returns-then-ended-clause-bytes g c =
    let step = c.step-any in
    let served = served_on c.loop.state step.result.1 (g.K.Sink.held c.args.out.now) (g.K.Sink.held c.loop.out) (g.K.Sink.held step.new.out) (bytes_taken c.args.self.now) (bytes_taken c.loop.self) (bytes_taken step.new.self) c.loop.invariant.bytes step.ensures.bytes in
    (served.0, c.let_go.ensures.taken ∙ served.1, served.2)

pub loop-preserved-then-not-any : goal.loop-preserved-then-not-any
loop-preserved-then-not-any g c =
    let before = c.loop.invariant in
    let step = c.step-any in
    let served = served_on c.loop.state step.result.1 (g.K.Sink.held c.args.out.now) (g.K.Sink.held c.loop.out) (g.K.Sink.held step.new.out) (bytes_taken c.args.self.now) (bytes_taken c.loop.self) (bytes_taken step.new.self) before.bytes step.ensures.bytes in
    record {
      ring = c.let_go.ensures.ring ∙ step.ensures.ring ∙ before.ring;
      bytes = (served.0, c.let_go.ensures.taken ∙ served.1, served.2);
      faults = omega (arith, before.faults, step.ensures.faults);
      refusals = omega (arith, before.refusals, step.ensures.refusals);
      cause = step.ensures.cause (g.K.Sink.faults c.args.out.now) before.faults before.cause;
      place = step.ensures.place ∙ before.place;
    }

pub loop-preserved : goal.loop-preserved
loop-preserved g c =
    let before = c.loop.invariant in
    let step = c.step-any in
    let served = served_on c.loop.state step.result.1 (g.K.Sink.held c.args.out.now) (g.K.Sink.held c.loop.out) (g.K.Sink.held step.new.out) (bytes_taken c.args.self.now) (bytes_taken c.loop.self) (bytes_taken step.new.self) before.bytes step.ensures.bytes in
    record {
      ring = c.let_go.ensures.ring ∙ step.ensures.ring ∙ before.ring;
      bytes = (served.0, c.let_go.ensures.taken ∙ served.1, served.2);
      faults = omega (arith, before.faults, step.ensures.faults);
      refusals = omega (arith, before.refusals, step.ensures.refusals);
      cause = step.ensures.cause (g.K.Sink.faults c.args.out.now) before.faults before.cause;
      place = step.ensures.place ∙ before.place;
    }
