-- A batch more.
use Rattle.std.proofs.Common.{refl, subst, arith}
use Rattle.model_history.specs.Scripts.{ScriptModel}
use Rattle.player_lockstep.specs.inner.Batches.{StopsEarly}
use Rattle.player_lockstep.proofs.BatchedRuns.{stops_early}
use Rattle.player_lockstep.proofs.batches.record_inputs.Goals as goal

pub loop-rest-init : goal.loop-rest-init
loop-rest-init g c = record {
  stays = record { course = c.requires.course; script = refl };
  bytes = λ start half. half;
  grows = omega arith;
}

pub record_batch-requires-clause-course : goal.record_batch-requires-clause-course
record_batch-requires-clause-course g c κs within = c.loop-rest.invariant.stays.course

pub returns-in-Err-clause-err : goal.returns-in-Err-clause-err
returns-in-Err-clause-err g c = λ start half.
    let i = c.loop-rest.invariant in
    subst (λ (s : ScriptModel). StopsEarly s start (g.K.Sink.held c.record_batch.new.out)) i.stays.script
    (stops_early c.loop-rest.rest.now c.loop-rest.single start _ i.stays.course (c.in-Err.ensures.err start (i.bytes start half)))
