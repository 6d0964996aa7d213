-- The inputs, and then the end of the run.
use Rattle.std.proofs.Common.{subst, arith}
use Rattle.std.specs.Prelude.{IfOk, ⊤}
use Rattle.model_history.specs.Lockstep.{IsLockstep}
use Rattle.model_history.specs.Scripts.{ScriptModel}
use Rattle.thread_pieces.proofs.Gains.{blames_from}
use Rattle.player_lockstep.specs.Recordings.{Records}
use Rattle.player_lockstep.proofs.batches.record_run.Goals as goal

pub record_end-requires-clause-course : goal.record_end-requires-clause-course
record_end-requires-clause-course g c κs within = let stays = c.in_default.ensures.course in stays.course

pub returns-in-Err : goal.returns-in-Err
returns-in-Err g c = record {
  bytes = λ start half. c.in-Err.ensures.err start half;
  history = tt;
  grows = c.record_inputs.ensures.grows;
  cause = c.in-Err.ensures.cause;
}

pub returns : goal.returns
returns g c =
    let stays = c.in_default.ensures.course in
    let rest = c.record_end.ensures in
    record {
      bytes = λ start half.
          subst (λ (s : ScriptModel). Records {X = ⊤} s start (g.K.Sink.held c.record_end.new.out) c.record_end.result) stays.script
          (rest.bytes start (c.in_default.ensures.ok start half));
      history = subst (λ (s : ScriptModel). IfOk c.record_end.result (λ whole. IsLockstep s c.record_end.new.single.run.entries)) stays.script rest.history;
      grows = omega (arith, c.record_inputs.ensures.grows, rest.grows);
      cause = blames_from {X = ⊤} (g.K.Sink.faults c.args.out.now) (g.K.Sink.faults c.record_inputs.new.out) (g.K.Sink.faults c.record_end.new.out) c.record_end.result c.record_inputs.ensures.grows rest.cause;
    }
