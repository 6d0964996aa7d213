-- Each turn adds its part, and the last one ends it.
use Rattle.std.proofs.Common.{◌∙◌, refl, arith}
use Rattle.proxy_threads.specs.declared.turned.Turned.TheVariants as turned
use Rattle.proxy_threads.proofs.Goings.{goes_first, goes_went, goes_blocked, goes_last}
use Rattle.proxy_threads.proofs.driving.drive_compositor.Goals as goal

pub loop-init : goal.loop-init
loop-init g c = (goes_first c.args.lock.now.id c.args.comp.now.pass c.args.comp.now.lines.written (g.K.Sink.held c.args.comp.now.out.now) c.requires, omega arith, refl, refl)

pub loop-preserved-in-Went : goal.loop-preserved-in-Went
loop-preserved-in-Went g c =
    let i = c.loop.invariant in (
      goes_went c.args.lock.now.id c.args.comp.now.pass c.loop.comp.pass c.turn.new.self.pass c.args.comp.now.lines.written c.loop.comp.lines.written c.turn.new.self.lines.written (g.K.Sink.held c.args.comp.now.out.now)
          (g.K.Sink.held c.loop.comp.out.now) (g.K.Sink.held c.turn.new.self.out.now) i.0 c.in-Went.ensures.turn,
      omega (arith, i.1, c.in-Went.ensures.grows),
      c.in-Went.ensures.place ∙ i.2,
      c.in-Went.ensures.same_reference ∙ i.3,
    )

pub loop-preserved : goal.loop-preserved
loop-preserved g c =
    let i = c.loop.invariant in (
      goes_blocked c.args.lock.now.id c.args.comp.now.pass c.loop.comp.pass c.turn.new.self.pass c.args.comp.now.lines.written c.loop.comp.lines.written c.turn.new.self.lines.written (g.K.Sink.held c.args.comp.now.out.now)
          (g.K.Sink.held c.loop.comp.out.now) (g.K.Sink.held c.turn.new.self.out.now) i.0 c.in-Blocked.ensures.turn,
      omega (arith, i.1, c.in-Blocked.ensures.grows),
      c.in-Blocked.ensures.place ∙ i.2,
      c.in-Blocked.ensures.same_reference ∙ i.3,
    )

pub returns-in-Ended-clause-turns : goal.returns-in-Ended-clause-turns
returns-in-Ended-clause-turns g c =
    goes_last c.args.lock.now.id c.args.comp.now.pass c.loop.comp.pass c.turn.new.self.pass c.args.comp.now.lines.written c.loop.comp.lines.written c.turn.new.self.lines.written (g.K.Sink.held c.args.comp.now.out.now)
    (g.K.Sink.held c.loop.comp.out.now) (g.K.Sink.held c.turn.new.self.out.now) turned.Ended tt c.loop.invariant.0 c.in-Ended.ensures.turn

pub returns-in-Memory-clause-turns : goal.returns-in-Memory-clause-turns
returns-in-Memory-clause-turns g c =
    goes_last c.args.lock.now.id c.args.comp.now.pass c.loop.comp.pass c.turn.new.self.pass c.args.comp.now.lines.written c.loop.comp.lines.written c.turn.new.self.lines.written (g.K.Sink.held c.args.comp.now.out.now)
    (g.K.Sink.held c.loop.comp.out.now) (g.K.Sink.held c.turn.new.self.out.now) turned.Memory tt c.loop.invariant.0 c.in-Memory.ensures.turn

pub returns-in-WriteFault-clause-turns : goal.returns-in-WriteFault-clause-turns
returns-in-WriteFault-clause-turns g c =
    goes_last c.args.lock.now.id c.args.comp.now.pass c.loop.comp.pass c.turn.new.self.pass c.args.comp.now.lines.written c.loop.comp.lines.written c.turn.new.self.lines.written (g.K.Sink.held c.args.comp.now.out.now)
    (g.K.Sink.held c.loop.comp.out.now) (g.K.Sink.held c.turn.new.self.out.now) turned.WriteFault tt c.loop.invariant.0 c.in-WriteFault.ensures.turn
