-- Some inputs more.
use Rattle.std.proofs.Common.{[], refl, sym, ◌∙◌, subst}
use Rattle.std.specs.Prelude.{reverse, IfErr, OnOk}
use Rattle.model_history.specs.Lockstep.{IsLockstep}
use Rattle.model_history.specs.Scripts.{ScriptModel}
use Rattle.model_lockstep.specs.Walks.{BeginsLockstep}
use Rattle.model_lockstep.specs.Receivers.{StopsAt}
use Rattle.model_lockstep.proofs.whole.play_all.Goals as goal

pub inputs-init : goal.inputs-init
inputs-init g c = record {
  stays = record { course = c.requires.course; script = refl };
  has = λ start has. has;
}

pub play_some-requires-clause-course : goal.play_some-requires-clause-course
play_some-requires-clause-course g c κs within = c.inputs.invariant.stays.course

pub play_some-requires-clause-has : goal.play_some-requires-clause-has
play_some-requires-clause-has g c κs within =
    let i = c.inputs.invariant in
    let was = c.requires.has in
    (was.0, subst (λ (s : ScriptModel). g.V.Receiver.has was.0 s (g.C.Compositor.run c.inputs.core).past c.inputs.receiver c.inputs.out) (sym i.stays.script) (i.has was.0 was.1))

pub returns-in-Err-clause-stopped : goal.returns-in-Err-clause-stopped
returns-in-Err-clause-stopped g c = λ start has.
    let i = c.inputs.invariant in
    let now = g.C.Compositor.run c.inputs.core in
    let at = c.in-Err.ensures.stopped start (subst (λ (s : ScriptModel). g.V.Receiver.has start s now.past c.inputs.receiver c.inputs.out) (sym i.stays.script) (i.has start has)) in (
      at.0,
      subst (λ (s : ScriptModel). BeginsLockstep s (reverse at.0)) i.stays.script at.1,
      subst (λ (s : ScriptModel). g.V.Receiver.stopped start s at.0 c.in-Err.fault c.play_some.new.receiver c.play_some.new.out) i.stays.script at.2,
    )

pub inputs-preserved : goal.inputs-preserved
inputs-preserved g c =
    let i = c.inputs.invariant in
    let now = g.C.Compositor.run c.inputs.core in
    let next = g.C.Compositor.run c.play_some.new.core in
    let step = c.in-Ok.ensures in
    record {
      stays = record { course = step.course.course; script = step.course.script ∙ i.stays.script };
      has = λ start has.
          subst (λ (s : ScriptModel). g.V.Receiver.has start s next.past c.play_some.new.receiver c.play_some.new.out) i.stays.script
          (step.has start (subst (λ (s : ScriptModel). g.V.Receiver.has start s now.past c.inputs.receiver c.inputs.out) (sym i.stays.script) (i.has start has)));
    }

pub returns-clause-lockstep : goal.returns-clause-lockstep
returns-clause-lockstep g c =
    let next = g.C.Compositor.run c.play_to_end.new.core in
    subst (λ (s : ScriptModel). OnOk c.play_to_end.result (IsLockstep s (reverse next.past))) c.inputs.invariant.stays.script c.play_to_end.ensures.lockstep

pub returns-clause-stopped : goal.returns-clause-stopped
returns-clause-stopped g c = λ start has.
    let i = c.inputs.invariant in
    let now = g.C.Compositor.run c.inputs.core in
    subst (λ (s : ScriptModel). IfErr c.play_to_end.result (λ fault. StopsAt s (λ past. g.V.Receiver.stopped start s past fault c.play_to_end.new.receiver c.play_to_end.new.out))) i.stays.script
    (c.play_to_end.ensures.stopped start (subst (λ (s : ScriptModel). g.V.Receiver.has start s now.past c.inputs.receiver c.inputs.out) (sym i.stays.script) (i.has start has)))
