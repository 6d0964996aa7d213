-- A compositor before anything was entered is on course, and the lines before the events are its recording.
use Rattle.std.proofs.Common.{subst}
use Rattle.std.specs.Prelude.{IfOk, ⊤}
use Rattle.model_history.specs.Lockstep.{IsLockstep}
use Rattle.model_history.specs.Scripts.{ScriptModel}
use Rattle.player_lockstep.specs.Recordings.{Records}
use Rattle.player_lockstep.proofs.BatchedRuns.{fresh_half}
use Rattle.player_lockstep.proofs.Received.{fresh_course}
use Rattle.player_lockstep.proofs.FilmedRuns.{fresh_script}
use Rattle.player_lockstep.proofs.batches.record_batches.Goals as goal

pub record_run-requires-clause-course : goal.record_run-requires-clause-course
record_run-requires-clause-course g c κs within = fresh_course c.args.script.now c.inputs.result.now c.args.single.now c.requires c.is_accepted.ensures.accepted c.inputs.ensures

pub returns : goal.returns
returns g c =
    let run = c.record_run.ensures in
    record {
      bytes = λ start half.
          subst (λ (s : ScriptModel). Records {X = ⊤} s start (g.K.Sink.held c.record_run.new.out) c.record_run.result) (fresh_script c.args.script.now c.args.single.now c.requires)
          (run.bytes start (fresh_half c.args.script.now c.args.single.now start _ c.args.lines.items _ c.requires c.new.ensures half));
      history =
          subst (λ (s : ScriptModel). IfOk c.record_run.result (λ whole. IsLockstep s c.record_run.new.single.run.entries)) (fresh_script c.args.script.now c.args.single.now c.requires) run.history;
      grows = run.grows;
      cause = run.cause;
    }
