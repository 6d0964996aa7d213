-- The end was handed over, or the actor gave up.
use Rattle.proxy_threads.proofs.MainFacts.{handed}
use Rattle.proxy_threads.proofs.main_actor.finish.Goals as goal

pub returns : goal.returns
returns g c = λ host held. handed c.args.pass c.hand_over-pass.result.0 c.stop_if_failed.result host c.args.end c.hand_over-pass.result.1 held c.hand_over-pass.ensures c.stop_if_failed.ensures
