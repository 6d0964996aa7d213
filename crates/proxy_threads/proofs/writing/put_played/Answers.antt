-- The lines, and then the image.
use Rattle.std.proofs.Common.{◌++◌, ◌∙◌, sym, subst, arith}
use Rattle.byte_io.proofs.Puts.{piece_stops}
use Rattle.proxy_threads.specs.declared.turned.Turned.{Turned}
use Rattle.proxy_threads.specs.Writing.{FaultCause, Wrote}
use Rattle.proxy_threads.specs.inner.Steps.{image_in}
use Rattle.proxy_threads.proofs.Gained.{cause_later, refused_cause, wrote_behind, wrote_refused}
use Rattle.proxy_threads.proofs.writing.put_played.Goals as goal

pub returns-in-Ok-clause-put : goal.returns-in-Ok-clause-put
returns-in-Ok-clause-put g c =
    let lines = c.put.ensures in
    let image = c.show.ensures.put in
    record {
      bytes =
          wrote_behind c.show.result (g.K.Sink.held c.args.out.now) (g.K.Sink.held c.put.new.self) (g.K.Sink.held c.show.new.out) c.args.lines.now (image_in c.args.played) c.in-Ok.ensures.bytes image.bytes;
      grows = omega (arith, lines.grows, image.grows);
      cause = cause_later c.show.result (g.K.Sink.faults c.args.out.now) (g.K.Sink.faults c.put.new.self) (g.K.Sink.faults c.show.new.out) lines.grows image.cause;
      place = image.place ∙ lines.place;
    }

pub returns-in-Err-clause-put : goal.returns-in-Err-clause-put
returns-in-Err-clause-put g c =
    let lines = c.put.ensures in
    record {
      bytes =
          subst (λ (t : Turned). Wrote (g.K.Sink.held c.args.out.now) (g.K.Sink.held c.put.new.self) (c.args.lines.now ++ image_in c.args.played) t) (sym c.refused.ensures)
          (wrote_refused c.in-Err.fault (g.K.Sink.held c.args.out.now) (g.K.Sink.held c.put.new.self) c.args.lines.now (image_in c.args.played) (piece_stops (Unit {0}) _ _ c.args.lines.now c.in-Err.fault c.in-Err.ensures.bytes));
      grows = lines.grows;
      cause =
          subst (λ (t : Turned). FaultCause (g.K.Sink.faults c.args.out.now) (g.K.Sink.faults c.put.new.self) t) (sym c.refused.ensures)
          (refused_cause (Unit {0}) _ _ _ _ c.in-Err.fault c.in-Err.ensures.cause);
      place = lines.place;
    }
