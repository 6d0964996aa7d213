-- A part was played, and then all was taken; or nothing was.
use Rattle.std.proofs.Common.{List, sym, subst}
use Rattle.std.specs.Prelude.{OnOk}
use Rattle.model_history.specs.declared.history.Entry.{Entry}
use Rattle.model_lockstep.specs.Walks.{run_end}
use Rattle.model_lockstep.proofs.Courses.{begins_end, begins_none, end_begins, end_can, reaches_end, since_end}
use Rattle.model_lockstep.proofs.Parts.{end_grows}
use Rattle.model_lockstep.proofs.whole.take_end_part.Goals as goal

pub take-requires-clause-since : goal.take-requires-clause-since
take-requires-clause-since g c = let has = c.requires.has in (has.0, g.C.Compositor.run c.args.core.now, since_end c.in-Ok.over _ _ c.requires.course.all c.in-Ok.ensures, has.1)

pub returns-in-Ok-take-clause-reaches : goal.returns-in-Ok-take-clause-reaches
returns-in-Ok-take-clause-reaches g c =
    let ok = c.in-Ok-take.ensures in
    reaches_end c.in-Ok.over _ (g.C.Compositor.run c.end_part.new.core) (g.C.Compositor.run c.take.new.core) c.requires.course c.in-Ok.ensures c.take.ensures.script c.take.ensures.past c.take.ensures.all

pub returns-in-Ok-take-clause-has : goal.returns-in-Ok-take-clause-has
returns-in-Ok-take-clause-has g c = λ start has.
    let old = g.C.Compositor.run c.args.core.now in
    subst (λ (h : List Entry). g.V.Receiver.has start old.script h c.take.new.self c.take.new.out) (sym c.take.ensures.past)
    (c.in-Ok-take.ensures.has start old (since_end c.in-Ok.over _ _ c.requires.course.all c.in-Ok.ensures) has)

pub returns-in-Err-take-clause-stopped : goal.returns-in-Err-take-clause-stopped
returns-in-Err-take-clause-stopped g c = λ start has.
    let old = g.C.Compositor.run c.args.core.now in
    let mid = g.C.Compositor.run c.end_part.new.core in
    (mid.past, begins_end c.in-Ok.over old mid c.requires.course c.in-Ok.ensures, c.in-Err-take.ensures.stopped start old (since_end c.in-Ok.over _ _ c.requires.course.all c.in-Ok.ensures) has)

pub returns-in-Err-clause-stopped : goal.returns-in-Err-clause-stopped
returns-in-Err-clause-stopped g c = λ start has.
    let old = g.C.Compositor.run c.args.core.now in
    (old.past, end_begins old old.past c.requires.course (begins_none run_end old end_grows (end_can old c.requires.course)), c.refused.ensures start old.script old.past c.args.receiver.now c.args.out.now has)
