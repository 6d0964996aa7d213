-- A part of the first input, after which the others are left, or all are.
use Rattle.std.proofs.Common.{Bool, refl, subst}
use Rattle.model_lockstep.specs.Receivers.{TakesPart}
use Rattle.model_lockstep.proofs.Courses.{first_begins, first_can, stays_on, stays_there}
use Rattle.model_lockstep.proofs.LeftToPlay.{nearer_after, nearer_there}
use Rattle.model_lockstep.proofs.whole.take_first.Goals as goal

pub take_part-requires-clause-can : goal.take_part-requires-clause-can
take_part-requires-clause-can g c κs within = first_can c.args.inputs.now c.in-Some.after.now c.in-Some.input.now c.in-Some.ensures.cases.0 _ c.requires.course

pub take_part-requires-clause-all : goal.take_part-requires-clause-all
take_part-requires-clause-all g c κs within = c.requires.course.all

pub returns-in-Ok-true-clause-course : goal.returns-in-Ok-true-clause-course
returns-in-Ok-true-clause-course g c =
    let old = g.C.Compositor.run c.args.core.now in
    let new = g.C.Compositor.run c.take_part.new.core in
    let taken = subst (λ (over : Bool). TakesPart c.in-Some.input.now over old new) c.in-Ok-true.field-0-test c.in-Ok-true.ensures.taken in
    stays_on c.args.inputs.now c.in-Some.after.now c.in-Some.input.now c.in-Some.ensures.cases.0 old old new (record { course = c.requires.course; script = refl }) taken

pub returns-in-Ok-true-clause-nearer : goal.returns-in-Ok-true-clause-nearer
returns-in-Ok-true-clause-nearer g c = λ some.
    let old = g.C.Compositor.run c.args.core.now in
    let new = g.C.Compositor.run c.take_part.new.core in
    let taken = subst (λ (over : Bool). TakesPart c.in-Some.input.now over old new) c.in-Ok-true.field-0-test c.in-Ok-true.ensures.taken in
    nearer_after c.args.inputs.now c.in-Some.after.now c.in-Some.input.now c.in-Some.ensures.cases.0 old new taken

pub returns-in-Ok-false-clause-course : goal.returns-in-Ok-false-clause-course
returns-in-Ok-false-clause-course g c =
    let old = g.C.Compositor.run c.args.core.now in
    let new = g.C.Compositor.run c.take_part.new.core in
    let taken = subst (λ (over : Bool). TakesPart c.in-Some.input.now over old new) c.in-Ok-false.field-0-test c.in-Ok-false.ensures.taken in
    stays_there c.args.inputs.now c.in-Some.after.now c.in-Some.input.now c.in-Some.ensures.cases.0 old old new (record { course = c.requires.course; script = refl }) taken

pub returns-in-Ok-false-clause-nearer : goal.returns-in-Ok-false-clause-nearer
returns-in-Ok-false-clause-nearer g c = λ some.
    let old = g.C.Compositor.run c.args.core.now in
    let new = g.C.Compositor.run c.take_part.new.core in
    let taken = subst (λ (over : Bool). TakesPart c.in-Some.input.now over old new) c.in-Ok-false.field-0-test c.in-Ok-false.ensures.taken in
    nearer_there c.args.inputs.now c.in-Some.after.now c.in-Some.input.now c.in-Some.ensures.cases.0 old new taken

pub returns-in-Err-clause-stopped : goal.returns-in-Err-clause-stopped
returns-in-Err-clause-stopped g c = λ start has.
    let at = c.in-Err.ensures.stopped start has in
    (at.0, first_begins c.args.inputs.now c.in-Some.after.now c.in-Some.input.now c.in-Some.ensures.cases.0 (g.C.Compositor.run c.args.core.now) at.0 c.requires.course at.1, at.2)
