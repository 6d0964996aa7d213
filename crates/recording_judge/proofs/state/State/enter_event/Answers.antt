-- The event that may come is the entry's, or is another.
use Rattle.std.proofs.Common.{◌≡◌, Some, refl, sym, ◌∙◌, ap, subst}
use Rattle.model_history.specs.declared.event.Event.{Event}
use Rattle.model_history.specs.EventFields.{kind_of, actor_of}
use Rattle.impl_log.specs.Runs.{past, now, with_entry}
use Rattle.impl_log.proofs.LogSteps.{next_is}
use Rattle.recording_judge.proofs.StateFacts.{other_comes}
use Rattle.recording_judge.proofs.state.State.enter_event.Goals as goal

pub follow-requires : goal.follow-requires
follow-requires c =
    let r = c.args.self.now.log in
    let e = c.args.entry.now.event in
    let a = c.args.entry.now.actor in
    let same : c.args.event ≡ e = c.same_event-same.ensures.0 c.if-same.true in
    record {
      state = c.requires.state;
      is_now = subst (λ (z : Event). now r (kind_of z) a ≡ Some c.args.event) (sym same) (sym c.requires.due);
      actor = c.requires.actor ∙ ap actor_of (sym same);
      within = c.requires.within;
    }

pub returns-in_ok-follow-clause-enters : goal.returns-in_ok-follow-clause-enters
returns-in_ok-follow-clause-enters c =
    let r = c.args.self.now.log in
    let e = c.args.entry.now.event in
    let a = c.args.entry.now.actor in
    let same : c.args.event ≡ e = c.same_event-same.ensures.0 c.if-same.true in
    (next_is r.script r.workers (past r) a e (sym c.requires.due ∙ ap Some same) c.requires.actor c.requires.within, c.in_ok-follow.ensures.log ∙ ap (with_entry r a) same)

pub returns-else-same-clause-enters : goal.returns-else-same-clause-enters
returns-else-same-clause-enters c =
    let r = c.args.self.now.log in
    (λ x. other_comes r.script r.workers (past r) c.args.entry.now c.args.event c.requires.due (λ same. absurd (cc (c.same_event-same.ensures.1 same, c.if-same.false))) x, refl)
