-- What was played waits, and what waited was put; or a prefix of it was.
use Rattle.std.proofs.Common.{◌<◌, subst, sym}
use Rattle.std.specs.Prelude.{IfOk, OnErr, OnOk}
use Rattle.byte_io.specs.Pieces.{GainsPrefix, WriteCause}
use Rattle.recording_writer.specs.Batches.{held_of}
use Rattle.model_lockstep.specs.Measures.{to_play}
use Rattle.model_lockstep.specs.Receivers.{StaysOn}
use Rattle.proxy_single_thread.specs.Singles.{walk_of}
use Rattle.player_lockstep.specs.inner.Batches.{run_text}
use Rattle.recording_writer.specs.Parts.{Half}
use Rattle.player_lockstep.proofs.BatchedRuns.{joint_cause, joint_err, joint_if, joint_ok, put_front}
use Rattle.player_lockstep.proofs.batches.record_batch.Goals as goal

pub returns-clause-course : goal.returns-clause-course
returns-clause-course g c = subst (λ r. IfOk r (λ left. StaysOn left.now (walk_of c.args.single.now) (walk_of c.play_beside-put.new.single))) (sym c.both_answer.ensures) (joint_if _ c.play_beside-put.result.0 c.play_beside-put.result.1 c.play_beside-put.ensures.course)

pub returns-clause-nearer : goal.returns-clause-nearer
returns-clause-nearer g c = λ some.
    subst (λ r. IfOk r (λ left. to_play left.now (walk_of c.play_beside-put.new.single) < to_play c.args.inputs.now (walk_of c.args.single.now))) (sym c.both_answer.ensures)
    (joint_if _ c.play_beside-put.result.0 c.play_beside-put.result.1 (c.play_beside-put.ensures.nearer some))

pub returns-clause-ok : goal.returns-clause-ok
returns-clause-ok g c = λ start half.
    subst (λ r. OnOk r (Half start (g.K.Sink.held c.play_beside-put.new.out) (run_text c.play_beside-put.new.single.run) (held_of c.play_beside-put.new.gathering.batch))) (sym c.both_answer.ensures)
    (joint_ok c.args.single.now.run c.play_beside-put.new.single.run start _ _ _ _ _ _ c.take_shots-shots.ensures.all half c.play_beside-put.result.0 c.play_beside-put.result.1 c.play_beside-put.ensures.bytes c.play_beside-put.ensures.put)

pub returns-clause-err : goal.returns-clause-err
returns-clause-err g c = λ start half.
    subst (λ r. OnErr r (GainsPrefix start (g.K.Sink.held c.play_beside-put.new.out) (run_text c.args.single.now.run))) (sym c.both_answer.ensures)
    (joint_err _ c.play_beside-put.result.0 c.play_beside-put.result.1
    (put_front c.args.single.now.run start _ _ _ _ _ c.take_shots-shots.ensures.all half c.play_beside-put.result.1 c.play_beside-put.ensures.put))

pub returns-clause-cause : goal.returns-clause-cause
returns-clause-cause g c = subst (λ r. WriteCause (g.K.Sink.faults c.args.out.now) (g.K.Sink.faults c.play_beside-put.new.out) r) (sym c.both_answer.ensures) (joint_cause _ _ c.play_beside-put.result.0 c.play_beside-put.result.1 c.play_beside-put.ensures.cause)
