-- The whole run was played and written, or a prefix of it.
use Rattle.std.proofs.Common.{arith}
use Rattle.std.specs.Prelude.{⊤}
use Rattle.thread_pieces.proofs.Gains.{blames_from}
use Rattle.player_lockstep.proofs.Received.{began, fresh_course, fresh_recorded, record_entries, record_put, record_stopped}
use Rattle.player_lockstep.proofs.RecordedRuns.{where_ok}
use Rattle.player_lockstep.proofs.lockstep.record_events.Goals as goal

pub play_all-requires-clause-course : goal.play_all-requires-clause-course
play_all-requires-clause-course g c κs within = fresh_course c.args.script.now c.inputs.result.now c.args.single.now c.requires.fresh c.is_accepted.ensures.accepted c.inputs.ensures

pub play_all-requires-clause-has : goal.play_all-requires-clause-has
play_all-requires-clause-has g c κs within =
    let half = c.requires.half in (
      began half.0 (g.K.Sink.faults c.args.out.now),
      fresh_recorded c.args.script.now c.args.single.now c.args.recording.now.recorder half.0 (g.K.Sink.held c.args.out.now) (g.K.Sink.faults c.args.out.now) c.requires.fresh c.requires.none half.1,
    )

pub returns-in-Err : goal.returns-in-Err
returns-in-Err g c =
    let half = c.requires.half in
    let faults = g.K.Sink.faults c.args.out.now in
    let has = fresh_recorded c.args.script.now c.args.single.now c.args.recording.now.recorder half.0 (g.K.Sink.held c.args.out.now) faults c.requires.fresh c.requires.none half.1 in
    let stopped = c.in-Err.ensures.stopped (began half.0 faults) has in
    record {
      bytes = λ start begun.
          let had = fresh_recorded c.args.script.now c.args.single.now c.args.recording.now.recorder start (g.K.Sink.held c.args.out.now) faults c.requires.fresh c.requires.none begun in
          record_stopped c.args.script.now c.args.single.now start (g.K.Sink.held c.play_all.new.out) faults (g.K.Sink.faults c.play_all.new.out) c.requires.fresh c.in-Err.stop (c.in-Err.ensures.stopped (began start faults) had);
      history = tt;
      grows = stopped.2.grows;
      cause = stopped.2.cause;
    }

pub returns : goal.returns
returns g c =
    let half = c.requires.half in
    let faults = g.K.Sink.faults c.args.out.now in
    let has = fresh_recorded c.args.script.now c.args.single.now c.args.recording.now.recorder half.0 (g.K.Sink.held c.args.out.now) faults c.requires.fresh c.requires.none half.1 in
    let played = c.in_default.ensures.has (began half.0 faults) has in
    record {
      bytes = λ start begun.
          let had = fresh_recorded c.args.script.now c.args.single.now c.args.recording.now.recorder start (g.K.Sink.held c.args.out.now) faults c.requires.fresh c.requires.none begun in
          record_put c.args.script.now c.args.single.now start (g.K.Sink.held c.play_all.new.out) faults (g.K.Sink.faults c.play_all.new.out) c.requires.fresh c.play_all.new.core c.play_all.new.receiver.recorder (g.K.Sink.held c.finish.new.out) c.finish.result
          c.in_default.ensures.lockstep (c.in_default.ensures.has (began start faults) had) c.finish.ensures.bytes;
      history = where_ok _ c.finish.result (record_entries c.args.script.now c.args.single.now c.play_all.new.core c.requires.fresh c.in_default.ensures.lockstep);
      grows = omega (arith, played.grows, c.finish.ensures.grows);
      cause = blames_from {X = ⊤} faults (g.K.Sink.faults c.play_all.new.out) (g.K.Sink.faults c.finish.new.out) c.finish.result played.grows c.finish.ensures.cause;
    }
