-- A part was played, and then all was taken; or nothing was.
use Rattle.std.proofs.Common.{List, sym, subst}
use Rattle.std.specs.Prelude.{OnOk}
use Rattle.model_history.specs.declared.history.Entry.{Entry}
use Rattle.model_lockstep.specs.Walks.{input_played}
use Rattle.model_lockstep.proofs.Courses.{begins_none, begins_part, part_taken, since}
use Rattle.model_lockstep.proofs.Parts.{input_grows}
use Rattle.model_lockstep.proofs.whole.take_part.Goals as goal

pub take-requires-clause-since : goal.take-requires-clause-since
take-requires-clause-since g c = let has = c.requires.has in (has.0, g.C.Compositor.run c.args.core.now, since c.args.input.now c.in-Ok.over _ _ c.requires.all c.in-Ok.ensures, has.1)

pub returns-in-Ok-take-clause-taken : goal.returns-in-Ok-take-clause-taken
returns-in-Ok-take-clause-taken g c = part_taken c.args.input.now c.in-Ok.over _ (g.C.Compositor.run c.play_part.new.core) (g.C.Compositor.run c.take.new.core) c.in-Ok.ensures c.take.ensures.script c.take.ensures.past c.take.ensures.all

pub returns-in-Ok-take-clause-has : goal.returns-in-Ok-take-clause-has
returns-in-Ok-take-clause-has g c = λ start has.
    let old = g.C.Compositor.run c.args.core.now in
    subst (λ (h : List Entry). g.V.Receiver.has start old.script h c.take.new.self c.take.new.out) (sym c.take.ensures.past)
    (c.in-Ok-take.ensures.has start old (since c.args.input.now c.in-Ok.over _ _ c.requires.all c.in-Ok.ensures) has)

pub returns-in-Err-take-clause-stopped : goal.returns-in-Err-take-clause-stopped
returns-in-Err-take-clause-stopped g c = λ start has.
    let old = g.C.Compositor.run c.args.core.now in
    let mid = g.C.Compositor.run c.play_part.new.core in
    (mid.past, begins_part c.args.input.now c.in-Ok.over old mid c.requires.can c.in-Ok.ensures, c.in-Err-take.ensures.stopped start old (since c.args.input.now c.in-Ok.over _ _ c.requires.all c.in-Ok.ensures) has)

pub returns-in-Err-clause-stopped : goal.returns-in-Err-clause-stopped
returns-in-Err-clause-stopped g c = λ start has.
    let old = g.C.Compositor.run c.args.core.now in
    (old.past, begins_none (input_played c.args.input.now) old (input_grows c.args.input.now) c.requires.can, c.refused.ensures start old.script old.past c.args.receiver.now c.args.out.now has)
