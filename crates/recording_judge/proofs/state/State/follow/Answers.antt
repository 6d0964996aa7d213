-- What may come makes a legal past, and is entered.
use Rattle.std.proofs.Common.{◌≡◌, ◌<◌, ◌+◌, Some, sym, ◌∙◌, ap, subst}
use Rattle.model_history.specs.EventFields.{kind_of}
use Rattle.impl_log.specs.Runs.{Run, past, now, with_entry}
use Rattle.impl_log.proofs.LogSteps.{next_is}
use Rattle.recording_judge.proofs.StateFacts.{state_after, on_ok}
use Rattle.recording_judge.proofs.state.State.follow.Goals as goal

pub step-requires : goal.step-requires
step-requires c =
    let r = c.args.self.now.log in
    let q = c.requires in
    record { state = q.state; playable = c.is_legal.ensures.playable; legal = (c.is_legal.ensures.legal, next_is r.script r.workers (past r) c.args.actor c.args.event q.is_now q.actor q.within) }

pub enter-requires-clause-is_now : goal.enter-requires-clause-is_now
enter-requires-clause-is_now c = subst (λ (z : Run). now z (kind_of c.args.event) c.args.actor ≡ Some c.args.event) (sym c.in_ok-step.ensures.log) c.requires.is_now

pub enter-requires-clause-within : goal.enter-requires-clause-within
enter-requires-clause-within c = subst (λ (z : Run). c.args.actor < 2 + z.workers) (sym c.in_ok-step.ensures.log) c.requires.within

pub returns : goal.returns
returns c =
    let r = c.args.self.now.log in
    on_ok c.enter.result
    (λ is.
    let entered = is ∙ ap (λ (z : Run). with_entry z c.args.actor c.args.event) c.in_ok-step.ensures.log in
    record { log = entered; state = state_after r c.enter.new.self c.args.actor c.args.event c.step.new.self.host c.step.new.self.tiles c.step.new.self.main entered c.in_ok-step.ensures.keeps })
    c.enter.ensures.ok
