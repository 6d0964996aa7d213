-- What was written is the part of the recording for what the pass has seen.
use Rattle.std.proofs.Common.{ℕ, List, Some, sym, subst}
use Rattle.std.specs.Prelude.{Option}
use Rattle.proxy_threads.specs.Seats.{Seat, Of}
use Rattle.proxy_threads.specs.Writing.{CompTurns, MayTurn, Wrote}
use Rattle.proxy_threads.specs.inner.Steps.{text_for}
use Rattle.proxy_threads.proofs.CompTurns.{comp_turn, knows_end}
use Rattle.proxy_threads.proofs.Gained.{cause_from, wrote_from}
use Rattle.proxy_threads.proofs.compositor.CompActor.turn.Goals as goal

pub hold-pass-requires-clause-written : goal.hold-pass-requires-clause-written
hold-pass-requires-clause-written g c =
    let may : MayTurn c.args.lock.now.id c.args.self.now.lines.written c.in-Some.pass = subst (λ (o : Option Seat). Of o (MayTurn c.args.lock.now.id c.args.self.now.lines.written)) (sym c.in-Some.ensures.value) c.requires in
    may.written

pub returns-clause-turn : goal.returns-clause-turn
returns-clause-turn g c =
    let may : MayTurn c.args.lock.now.id c.args.self.now.lines.written c.in-Some.pass = subst (λ (o : Option Seat). Of o (MayTurn c.args.lock.now.id c.args.self.now.lines.written)) (sym c.in-Some.ensures.value) c.requires in
    let wrote : Wrote (g.K.Sink.held c.args.self.now.out.now) (g.K.Sink.held c.write-answer.new.out) (text_for c.hold-pass.result.1 c.hold-pass.new.lines.text.items) c.write-answer.result =
    wrote_from c.write-answer.result (g.K.Sink.held c.args.self.now.out.now) (g.K.Sink.held c.wait_for_space.new.self) (g.K.Sink.held c.write-answer.new.out) (text_for c.hold-pass.result.1 c.hold-pass.new.lines.text.items) c.wait_for_space.ensures.bytes
    (subst (λ (w : List ℕ). Wrote (g.K.Sink.held c.wait_for_space.new.self) (g.K.Sink.held c.write-answer.new.out) (text_for c.hold-pass.result.1 w) c.write-answer.result) c.as_slice.ensures.value c.write-answer.ensures.put.bytes) in
    subst
    (λ (o : Option Seat).
    CompTurns o (Some c.stop_if_failed.result) c.args.self.now.lines.written c.hold-pass.new.lines.written (g.K.Sink.held c.args.self.now.out.now) (g.K.Sink.held c.write-answer.new.out) c.write-answer.result)
    c.in-Some.ensures.value
    (comp_turn c.in-Some.pass c.hold-pass.result.0 c.args.self.now.lines.written c.hold-pass.new.lines c.hold-pass.result.1 may.actor may.written c.hold-pass.ensures (g.K.Sink.held c.args.self.now.out.now) (g.K.Sink.held c.write-answer.new.out)
    c.stop_if_failed.result c.write-answer.result c.write-answer.ensures.answer wrote c.stop_if_failed.ensures)

pub returns-clause-over : goal.returns-clause-over
returns-clause-over g c =
    let may : MayTurn c.args.lock.now.id c.args.self.now.lines.written c.in-Some.pass = subst (λ (o : Option Seat). Of o (MayTurn c.args.lock.now.id c.args.self.now.lines.written)) (sym c.in-Some.ensures.value) c.requires in
    knows_end c.in-Some.pass c.hold-pass.result.0 c.args.self.now.lines.written c.hold-pass.new.lines c.hold-pass.result.1 may.actor may.written c.hold-pass.ensures c.stop_if_failed.result c.write-answer.result c.stop_if_failed.ensures

pub returns-clause-cause : goal.returns-clause-cause
returns-clause-cause g c = cause_from c.write-answer.result (g.K.Sink.faults c.args.self.now.out.now) (g.K.Sink.faults c.wait_for_space.new.self) (g.K.Sink.faults c.write-answer.new.out) c.wait_for_space.ensures.faults c.write-answer.ensures.put.cause
