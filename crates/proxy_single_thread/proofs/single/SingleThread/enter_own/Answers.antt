-- The main side and the workers stay, but for images that are dropped.
use Rattle.proxy_single_thread.proofs.Keeps.{by_own}
use Rattle.proxy_single_thread.proofs.single.SingleThread.enter_own.Goals as goal

pub invariant_of-self : goal.invariant_of-self
invariant_of-self c =
    by_own c.self.inside.core c.play-answer.new.core c.args.kind 0 c.play-answer.result c.play-answer.ensures.answer c.requires c.self.inside.main c.self.inside.workers
    (record { alloc = c.self.inside.workers.alloc; jobs = c.self.inside.workers.jobs; prepared = c.follow.new.self }) c.self.inside.shown c.play-answer.new.self c.is_legal.ensures.legal c.self.invariant
    (λ have. (have.0, c.follow.ensures c.play-answer.new.core.script have.1)) c.play-answer.ensures.stands
