-- The entries so far were taken.
use Rattle.std.proofs.Common.{◌≡◌, take}
use Rattle.test_histories.proofs.walk.stops_in.Given as goal

abbrev pub invariant-loop-place : goal.invariant-loop-place
invariant-loop-place l = record {
  script : l.run.run.script ≡ l.fn.run.run.script;
  workers : l.run.run.workers ≡ l.fn.run.run.workers;
  taken : l.run.run.entries ≡ take l.place l.entries;
}
