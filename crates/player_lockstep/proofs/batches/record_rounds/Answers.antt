-- What was played after all inputs waits, and its pieces were put; or a prefix of it was.
use Rattle.std.proofs.Common.{[]}
use Rattle.player_lockstep.proofs.BatchedRuns.{end_stops, half_front, half_gathered, half_put, half_stopped, stops_early}
use Rattle.player_lockstep.proofs.batches.record_rounds.Goals as goal

pub returns-in-Ok-put-clause-ok : goal.returns-in-Ok-put-clause-ok
returns-in-Ok-put-clause-ok g c = λ start half.
    half_put start _ _ _ _ _ _ c.take_shots-shots.ensures.all (half_gathered start _ _ _ _ _ half c.in-Ok.ensures.bytes) c.in-Ok-put.ensures.bytes

pub returns-in-Err-put-clause-err : goal.returns-in-Err-put-clause-err
returns-in-Err-put-clause-err g c = λ start half.
    end_stops c.in-Ok.over c.args.single.now c.gather_end.new.single start _ c.in-Ok.ensures.reaches
    (half_stopped start _ _ _ _ _ _ c.take_shots-shots.ensures.all (half_gathered start _ _ _ _ _ half c.in-Ok.ensures.bytes) c.in-Err-put.ensures.bytes)

pub returns-in-Err-clause-err : goal.returns-in-Err-clause-err
returns-in-Err-clause-err g c = λ start half. stops_early [] c.args.single.now start _ c.requires.course (half_front start _ _ _ half)
