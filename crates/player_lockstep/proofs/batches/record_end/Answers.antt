-- Some rounds more, and at the end of the run what waits.
use Rattle.std.proofs.Common.{◌≤◌, Bool, refl, sym, ◌∙◌, subst, arith}
use Rattle.std.specs.Prelude.{⊤, Err}
use Rattle.model_history.specs.Lockstep.{IsLockstep}
use Rattle.model_history.specs.Scripts.{ScriptModel}
use Rattle.model_lockstep.specs.Receivers.{ReachesEnd}
use Rattle.proxy_single_thread.specs.Singles.{walk_of}
use Rattle.script_json.specs.Recordings.{recording}
use Rattle.recording_writer.specs.Batches.{held_of}
use Rattle.recording_writer.specs.Parts.{Half}
use Rattle.thread_pieces.proofs.Gains.{blames_from}
use Rattle.player_lockstep.specs.Recordings.{Records}
use Rattle.player_lockstep.specs.inner.Batches.{StopsEarly}
use Rattle.player_lockstep.proofs.BatchedRuns.{all_put, ends_lockstep}
use Rattle.player_lockstep.proofs.RecordedRuns.{where_ok}
use Rattle.player_lockstep.proofs.batches.record_end.Goals as goal

pub rounds-init : goal.rounds-init
rounds-init g c = record {
  stays = record { course = c.requires.course; script = refl };
  bytes = λ start half. half;
  grows = omega arith;
}

pub record_rounds-requires-clause-course : goal.record_rounds-requires-clause-course
record_rounds-requires-clause-course g c κs within = c.rounds.invariant.stays.course

pub returns-in-Err : goal.returns-in-Err
returns-in-Err g c =
    let i = c.rounds.invariant in
    record {
      bytes = λ start half. subst (λ (s : ScriptModel). StopsEarly s start (g.K.Sink.held c.record_rounds.new.out)) i.stays.script (c.in-Err.ensures.err start (i.bytes start half));
      history = tt;
      grows = omega (arith, i.grows, c.record_rounds.ensures.grows);
      cause = blames_from {X = ⊤} (g.K.Sink.faults c.args.out.now) (g.K.Sink.faults c.rounds.out) (g.K.Sink.faults c.record_rounds.new.out) (Err c.in-Err.stop) i.grows c.in-Err.ensures.cause;
    }

pub returns-in-Ok-true : goal.returns-in-Ok-true
returns-in-Ok-true g c =
    let i = c.rounds.invariant in
    let now = c.rounds.single in
    let new = c.record_rounds.new.single in
    let lockstep = subst (λ (over : Bool). ReachesEnd over (walk_of now) (walk_of new)) c.in-Ok-true.field-0-test c.in-Ok-true.ensures.reaches in
    let grown : g.K.Sink.faults c.args.out.now ≤ g.K.Sink.faults c.record_rounds.new.out = omega (arith, i.grows, c.record_rounds.ensures.grows) in
    record {
      bytes = λ start half.
          subst (λ (s : ScriptModel). Records {X = ⊤} s start (g.K.Sink.held c.put.new.out) c.put.result) i.stays.script
          (all_put c.put.result now.run.script new start _ _ _ lockstep (c.in-Ok-true.ensures.ok start (i.bytes start half)) c.put.ensures.bytes);
      history = where_ok _ c.put.result (subst (λ (s : ScriptModel). IsLockstep s new.run.entries) i.stays.script (ends_lockstep now.run.script new lockstep));
      grows = omega (arith, grown, c.put.ensures.grows);
      cause = blames_from {X = ⊤} (g.K.Sink.faults c.args.out.now) (g.K.Sink.faults c.record_rounds.new.out) (g.K.Sink.faults c.put.new.out) c.put.result grown c.put.ensures.cause;
    }

pub rounds-preserved : goal.rounds-preserved
rounds-preserved g c =
    let i = c.rounds.invariant in
    let now = c.rounds.single in
    let new = c.record_rounds.new.single in
    let reaches = subst (λ (over : Bool). ReachesEnd over (walk_of now) (walk_of new)) c.in-Ok-false.field-0-test c.in-Ok-false.ensures.reaches in
    let stays = reaches.0 in
    record {
      stays = record { course = stays.course; script = stays.script ∙ i.stays.script };
      bytes = λ start half.
          subst (λ (s : ScriptModel). Half start (g.K.Sink.held c.record_rounds.new.out) (recording s new.run.entries) (held_of c.record_rounds.new.gathering.batch)) (sym stays.script)
          (c.in-Ok-false.ensures.ok start (i.bytes start half));
      grows = omega (arith, i.grows, c.record_rounds.ensures.grows);
    }
