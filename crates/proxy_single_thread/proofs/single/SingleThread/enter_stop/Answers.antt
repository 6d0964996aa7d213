-- All that is kept stays.
use Rattle.std.proofs.Common.{sym, ◌∙◌}
use Rattle.proxy_single_thread.proofs.Steps.{stop_entered}
use Rattle.proxy_single_thread.proofs.Keeps.{by_stop}
use Rattle.proxy_single_thread.proofs.single.SingleThread.enter_stop.Goals as goal

pub invariant_of-self : goal.invariant_of-self
invariant_of-self c =
    by_stop c.self.inside.core c.stop.new.self c.args.actor (stop_entered c.self.inside.core c.stop.new.self c.args.actor (sym c.ended.ensures ∙ c.if-ended.false) c.stop.ensures) c.self.inside.main c.self.inside.workers c.self.inside.shown
    c.is_legal.ensures.legal c.self.invariant
