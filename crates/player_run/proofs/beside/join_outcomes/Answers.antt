-- What was put, and why the run ended so.
use Rattle.std.proofs.Common.{sym, subst}
use Rattle.player_uses.specs.declared.outcome.Outcome.{Outcome}
use Rattle.player_uses.specs.Faults.{Causes}
use Rattle.player_run.specs.inner.Actors.{PlayEnds}
use Rattle.player_run.proofs.EndsOfRuns.{settles, told_cause}
use Rattle.player_run.proofs.beside.join_outcomes.Goals as goal

pub returns-clause-ends : goal.returns-clause-ends
returns-clause-ends g c = λ p o before first stem has.
    subst (λ (x : Outcome). PlayEnds o before first (g.K.Sink.held c.finish-presented.new.out) x) (sym c.told.ensures)
    (settles p o before c.args.ran first (g.K.Sink.held c.args.out.now) (g.K.Sink.held c.finish-presented.new.out) c.finish-presented.result stem has (c.finish-presented.ensures.bytes first has.gained))

pub returns-clause-cause : goal.returns-clause-cause
returns-clause-cause g c = λ count few rose.
    subst (λ (x : Outcome). Causes 0 0 count (g.K.Sink.faults c.finish-presented.new.out) x) (sym c.told.ensures)
    (told_cause c.finish-presented.result c.args.ran.ending count (g.K.Sink.faults c.finish-presented.new.out) (c.finish-presented.ensures.cause count few rose))
