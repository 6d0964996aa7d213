-- The abort that is kept is that of the frame in flight, and may come now.
use Rattle.std.proofs.Common.{Option, Some, refl, sym, ◌∙◌, ap, subst}
use Rattle.model_history.specs.declared.event.Event.TheVariants as event
use Rattle.main_host.specs.declared.main_end.MainEnd.{MainEnd}
use Rattle.main_host.specs.declared.main_end.MainEnd.TheVariants as end
use Rattle.proxy_single_thread.specs.inner.Sides.{IsMain}
use Rattle.proxy_single_thread.proofs.MainEnds.{IsHeld, held_is, abort_now, after_abort, abort_not}
use Rattle.proxy_single_thread.proofs.main_side.MainSide.give_up.Goals as goal

pub abort-requires : goal.abort-requires
abort-requires c =
    let held : IsHeld c.args.core.now c.args.self.now (end.Abort c.in-Some-Abort.frame) = held_is c.args.core.now c.args.self.now (end.Abort c.in-Some-Abort.frame) c.requires.stands (sym c.in-Some-Abort.ensures.value ∙ ap Some c.in-Some-Abort.field-0-is) in
    abort_now c.args.core.now c.args.self.now c.is_legal.ensures.legal c.requires.going c.in-Some-Abort.frame held

pub returns-in-Ok-clause-stands : goal.returns-in-Ok-clause-stands
returns-in-Ok-clause-stands c =
    let held : IsHeld c.args.core.now c.args.self.now (end.Abort c.in-Some-Abort.frame) = held_is c.args.core.now c.args.self.now (end.Abort c.in-Some-Abort.frame) c.requires.stands (sym c.in-Some-Abort.ensures.value ∙ ap Some c.in-Some-Abort.field-0-is) in
    subst (λ (o : Option MainEnd). IsMain c.abort.new.self (record { host = c.args.self.now.host; end = o; changed = c.args.self.now.changed })) (sym c.take.ensures.after)
    (after_abort c.args.core.now c.args.self.now c.is_legal.ensures.legal c.requires.going c.in-Some-Abort.frame held c.abort.new.self c.in-Ok.ensures.ok)

pub returns-in-Ok-clause-answer : goal.returns-in-Ok-clause-answer
returns-in-Ok-clause-answer c =
    let held : IsHeld c.args.core.now c.args.self.now (end.Abort c.in-Some-Abort.frame) = held_is c.args.core.now c.args.self.now (end.Abort c.in-Some-Abort.frame) c.requires.stands (sym c.in-Some-Abort.ensures.value ∙ ap Some c.in-Some-Abort.field-0-is) in
    record {
      event = event.Abort c.in-Some-Abort.frame;
      is_now = abort_now c.args.core.now c.args.self.now c.is_legal.ensures.legal c.requires.going c.in-Some-Abort.frame held;
      is_entered = c.in-Ok.ensures.ok;
    }

pub returns-in-Some-Ready-clause-answer : goal.returns-in-Some-Ready-clause-answer
returns-in-Some-Ready-clause-answer c =
    let held : IsHeld c.args.core.now c.args.self.now (end.Ready c.in-Some-Ready.commit) = held_is c.args.core.now c.args.self.now (end.Ready c.in-Some-Ready.commit) c.requires.stands (sym c.in-Some-Ready.ensures.value ∙ ap Some c.in-Some-Ready.field-0-is) in
    (abort_not c.args.core.now c.args.self.now c.is_legal.ensures.legal c.requires.going c.in-Some-Ready.commit held, refl)
