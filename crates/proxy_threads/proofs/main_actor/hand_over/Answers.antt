-- The run was found, and was put back with the end of the frame.
use Rattle.std.proofs.Common.{ℕ, sym, subst}
use Rattle.proxy_threads.specs.inner.Holdings.{Steps}
use Rattle.proxy_threads.specs.inner.Mains.{Hands}
use Rattle.proxy_threads.proofs.Holds.{can_put, holds}
use Rattle.proxy_threads.proofs.MainFacts.{can_end, hands_steps}
use Rattle.proxy_threads.proofs.main_actor.hand_over.Goals as goal

pub enter_end-answer-requires : goal.enter_end-answer-requires
enter_end-answer-requires g c = can_end c.args.pass c.take_turn-core.result.0 c.requires.held.0 c.args.end c.take_turn-core.ensures.sees c.requires.held.1

pub put_back-pass-requires-clause-put : goal.put_back-pass-requires-clause-put
put_back-pass-requires-clause-put g c =
    let found = c.take_turn-core.result.0 in
    let left = c.enter_end-answer.new.core in
    can_put c.args.pass c.take_turn-core.result.1 found left c.take_turn-core.ensures (subst (λ (a : ℕ). Steps a found left) (sym c.requires.held.1.actor) (hands_steps c.args.end c.enter_end-answer.result found left c.enter_end-answer.ensures))

pub returns : goal.returns
returns g c =
    let found = c.take_turn-core.result.0 in
    let left = c.enter_end-answer.new.core in
    holds c.args.pass c.take_turn-core.result.1 c.put_back-pass.result found left (Hands c.args.end c.enter_end-answer.result) c.take_turn-core.ensures
    (subst (λ (a : ℕ). Steps a found left) (sym c.requires.held.1.actor) (hands_steps c.args.end c.enter_end-answer.result found left c.enter_end-answer.ensures)) c.put_back-pass.ensures c.enter_end-answer.ensures
