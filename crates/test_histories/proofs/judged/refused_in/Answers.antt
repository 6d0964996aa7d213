-- An entry that was not entered may not come.
use Rattle.std.proofs.Common.{arith}
use Rattle.test_histories.proofs.Stops.{stops_here, judged}
use Rattle.test_histories.proofs.judged.refused_in.Goals as goal

pub returns-in-Ok-false : goal.returns-in-Ok-false
returns-in-Ok-false c =
    stops_here c.args.judge.now.script c.args.judge.now.workers c.loop-place.judge c.enter.new.self c.args.entries.now c.loop-place.place c.index-entries-place.result c.in-Ok-false.field-0
    c.loop-place.invariant.script c.loop-place.invariant.workers (omega (arith, c.loop-place-test.true)) c.index-entries-place.is c.loop-place.invariant.entered c.is_legal.ensures
    (judged c.loop-place.judge c.enter.new.self c.index-entries-place.result c.in-Ok-false.field-0 c.in-Ok-false.ensures) c.in-Ok-false.field-0-test
