-- A part more.
use Rattle.std.proofs.Common.{◌≡◌, ◌≤◌, List, length, refl, sym, ◌∙◌, subst, arith}
use Rattle.std.proofs.lemmas.Bool.Decides.{nat_tests}
use Rattle.std.specs.Prelude.{reverse}
use Rattle.model_history.specs.Scripts.{ScriptModel}
use Rattle.model_lockstep.specs.Walks.{BeginsLockstep}
use Rattle.model_lockstep.proofs.LeftToPlay.{nearer_none}
use Rattle.model_lockstep.proofs.whole.play_some.Goals as goal

pub parts-init : goal.parts-init
parts-init g c = record {
  stays = record { course = c.requires.course; script = refl };
  has = λ start has. has;
  nearer = omega arith;
}

pub take_first-requires-clause-course : goal.take_first-requires-clause-course
take_first-requires-clause-course g c κs within = c.parts.invariant.stays.course

pub take_first-requires-clause-has : goal.take_first-requires-clause-has
take_first-requires-clause-has g c κs within =
    let i = c.parts.invariant in
    let was = c.requires.has in
    (was.0, subst (λ (s : ScriptModel). g.V.Receiver.has was.0 s (g.C.Compositor.run c.parts.core).past c.parts.receiver c.parts.out) (sym i.stays.script) (i.has was.0 was.1))

pub returns-in-Err-clause-stopped : goal.returns-in-Err-clause-stopped
returns-in-Err-clause-stopped g c = λ start has.
    let i = c.parts.invariant in
    let now = g.C.Compositor.run c.parts.core in
    let at = c.in-Err.ensures.stopped start (subst (λ (s : ScriptModel). g.V.Receiver.has start s now.past c.parts.receiver c.parts.out) (sym i.stays.script) (i.has start has)) in (
      at.0,
      subst (λ (s : ScriptModel). BeginsLockstep s (reverse at.0)) i.stays.script at.1,
      subst (λ (s : ScriptModel). g.V.Receiver.stopped start s at.0 c.in-Err.fault c.take_first.new.receiver c.take_first.new.out) i.stays.script at.2,
    )

pub parts-preserved : goal.parts-preserved
parts-preserved g c =
    let i = c.parts.invariant in
    let now = g.C.Compositor.run c.parts.core in
    let next = g.C.Compositor.run c.take_first.new.core in
    let step = c.in-Ok.ensures in
    let some : 1 ≤ length c.parts.rest.now = grind (arith, nat_tests, c.is_empty.ensures) in
    let nearer = step.nearer some in
    record {
      stays = record { course = step.course.course; script = step.course.script ∙ i.stays.script };
      has = λ start has.
          subst (λ (s : ScriptModel). g.V.Receiver.has start s next.past c.take_first.new.receiver c.take_first.new.out) i.stays.script
          (step.has start (subst (λ (s : ScriptModel). g.V.Receiver.has start s now.past c.parts.receiver c.parts.out) (sym i.stays.script) (i.has start has)));
      nearer = omega (arith, nearer, i.nearer);
    }

pub returns-then-is_full-clause-course : goal.returns-then-is_full-clause-course
returns-then-is_full-clause-course g c =
    let i = c.parts.invariant in
    let step = c.in-Ok.ensures in
    record { course = step.course.course; script = step.course.script ∙ i.stays.script }

pub returns-then-is_full-clause-has : goal.returns-then-is_full-clause-has
returns-then-is_full-clause-has g c = λ start has.
    let i = c.parts.invariant in
    let now = g.C.Compositor.run c.parts.core in
    let next = g.C.Compositor.run c.take_first.new.core in
    subst (λ (s : ScriptModel). g.V.Receiver.has start s next.past c.take_first.new.receiver c.take_first.new.out) i.stays.script
    (c.in-Ok.ensures.has start (subst (λ (s : ScriptModel). g.V.Receiver.has start s now.past c.parts.receiver c.parts.out) (sym i.stays.script) (i.has start has)))

pub returns-then-is_full-clause-nearer : goal.returns-then-is_full-clause-nearer
returns-then-is_full-clause-nearer g c = λ some.
    let left : 1 ≤ length c.parts.rest.now = grind (arith, nat_tests, c.is_empty.ensures) in
    let nearer = c.in-Ok.ensures.nearer left in
    omega (arith, nearer, c.parts.invariant.nearer)

pub returns-clause-nearer : goal.returns-clause-nearer
returns-clause-nearer g c = λ some.
    let none : length c.parts.rest.now ≡ 0 = grind (arith, nat_tests, c.is_empty.ensures, c.parts-test.false) in
    nearer_none c.parts.rest.now c.args.inputs.now (g.C.Compositor.run c.args.core.now) (g.C.Compositor.run c.parts.core) c.parts.invariant.stays.script none some
