-- How the run ended, and what was put.
use Rattle.thread_pieces.specs.Ring.{whole}
use Rattle.player_run.proofs.threads.run_crew.Goals as goal

pub returns-clause-ends : goal.returns-clause-ends
returns-clause-ends g c = λ o stem. c.join_outcomes.ensures.ends c.args.crew.pass o (whole c.args.ends.0) (g.K.Sink.held c.args.out.now) stem c.in_ok-ran.ensures.ran

pub returns-clause-cause : goal.returns-clause-cause
returns-clause-cause g c = c.join_outcomes.ensures.cause (g.K.Sink.faults c.args.out.now) c.run_scope.ensures.grows c.in_ok-ran.ensures.cause
