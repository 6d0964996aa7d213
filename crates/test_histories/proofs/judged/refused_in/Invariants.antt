-- The entries so far were entered.
use Rattle.std.proofs.Common.{◌≡◌, take}
use Rattle.test_histories.proofs.judged.refused_in.Given as goal

abbrev pub invariant-loop-place : goal.invariant-loop-place
invariant-loop-place l = record {
  script : l.judge.script ≡ l.fn.judge.script;
  workers : l.judge.workers ≡ l.fn.judge.workers;
  entered : l.judge.entries ≡ take l.place l.entries;
}
