-- An entry that was not taken may not come.
use Rattle.std.proofs.Common.{arith}
use Rattle.test_histories.proofs.Stops.{stops_here}
use Rattle.test_histories.proofs.walk.stops_in.Goals as goal

pub returns-in-Ok-false : goal.returns-in-Ok-false
returns-in-Ok-false c =
    stops_here c.args.run.now.run.script c.args.run.now.run.workers c.loop-place.run.run c.takes.new.run.run c.args.entries.now c.loop-place.place c.index-entries-place.result c.in-Ok-false.field-0
    c.loop-place.invariant.script c.loop-place.invariant.workers (omega (arith, c.loop-place-test.true)) c.index-entries-place.is c.loop-place.invariant.taken c.is_legal.ensures c.in-Ok-false.ensures c.in-Ok-false.field-0-test
