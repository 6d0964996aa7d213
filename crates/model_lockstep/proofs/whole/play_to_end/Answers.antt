-- Some rounds more, or the end.
use Rattle.std.proofs.Common.{Bool, [], List, refl, sym, ◌∙◌, subst, arith}
use Rattle.std.specs.Prelude.{reverse}
use Rattle.model_history.specs.Lockstep.{IsLockstep}
use Rattle.model_history.specs.Scripts.{ScriptModel}
use Rattle.model_lockstep.specs.Walks.{BeginsLockstep}
use Rattle.model_lockstep.specs.Receivers.{ReachesEnd}
use Rattle.model_lockstep.proofs.whole.play_to_end.Goals as goal

pub rounds-init : goal.rounds-init
rounds-init g c = record {
  stays = record { course = c.requires.course; script = refl };
  has = λ start has. has;
  fewer = omega arith;
}

pub play_end-requires-clause-course : goal.play_end-requires-clause-course
play_end-requires-clause-course g c κs within = c.rounds.invariant.stays.course

pub play_end-requires-clause-has : goal.play_end-requires-clause-has
play_end-requires-clause-has g c κs within =
    let i = c.rounds.invariant in
    let was = c.requires.has in
    (was.0, subst (λ (s : ScriptModel). g.V.Receiver.has was.0 s (g.C.Compositor.run c.rounds.core).past c.rounds.receiver c.rounds.out) (sym i.stays.script) (i.has was.0 was.1))

pub returns-in-Err-clause-stopped : goal.returns-in-Err-clause-stopped
returns-in-Err-clause-stopped g c = λ start has.
    let i = c.rounds.invariant in
    let now = g.C.Compositor.run c.rounds.core in
    let at = c.in-Err.ensures.stopped start (subst (λ (s : ScriptModel). g.V.Receiver.has start s now.past c.rounds.receiver c.rounds.out) (sym i.stays.script) (i.has start has)) in (
      at.0,
      subst (λ (s : ScriptModel). BeginsLockstep s (reverse at.0)) i.stays.script at.1,
      subst (λ (s : ScriptModel). g.V.Receiver.stopped start s at.0 c.in-Err.fault c.play_end.new.receiver c.play_end.new.out) i.stays.script at.2,
    )

pub returns-in-Ok-true-clause-lockstep : goal.returns-in-Ok-true-clause-lockstep
returns-in-Ok-true-clause-lockstep g c =
    let i = c.rounds.invariant in
    let now = g.C.Compositor.run c.rounds.core in
    let next = g.C.Compositor.run c.play_end.new.core in
    let reaches = subst (λ (over : Bool). ReachesEnd over now next) c.in-Ok-true.field-0-test c.in-Ok-true.ensures.reaches in
    subst (λ (s : ScriptModel). IsLockstep s (reverse next.past)) i.stays.script reaches

pub returns-in-Ok-true-clause-has : goal.returns-in-Ok-true-clause-has
returns-in-Ok-true-clause-has g c = λ start has.
    let i = c.rounds.invariant in
    let now = g.C.Compositor.run c.rounds.core in
    let next = g.C.Compositor.run c.play_end.new.core in
    subst (λ (s : ScriptModel). g.V.Receiver.has start s next.past c.play_end.new.receiver c.play_end.new.out) i.stays.script
    (c.in-Ok-true.ensures.has start (subst (λ (s : ScriptModel). g.V.Receiver.has start s now.past c.rounds.receiver c.rounds.out) (sym i.stays.script) (i.has start has)))

pub rounds-preserved : goal.rounds-preserved
rounds-preserved g c =
    let i = c.rounds.invariant in
    let now = g.C.Compositor.run c.rounds.core in
    let next = g.C.Compositor.run c.play_end.new.core in
    let reaches = subst (λ (over : Bool). ReachesEnd over now next) c.in-Ok-false.field-0-test c.in-Ok-false.ensures.reaches in
    let stays = reaches.0 in
    let less = reaches.1 in
    record {
      stays = record { course = stays.course; script = stays.script ∙ i.stays.script };
      has = λ start has.
          subst (λ (s : ScriptModel). g.V.Receiver.has start s next.past c.play_end.new.receiver c.play_end.new.out) i.stays.script
          (c.in-Ok-false.ensures.has start (subst (λ (s : ScriptModel). g.V.Receiver.has start s now.past c.rounds.receiver c.rounds.out) (sym i.stays.script) (i.has start has)));
      fewer = omega (arith, less, i.fewer);
    }
