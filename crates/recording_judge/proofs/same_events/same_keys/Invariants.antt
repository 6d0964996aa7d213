-- What is left of both lists is the same exactly where the lists are.
use Rattle.std.proofs.Common.{◌≡◌, length}
use Rattle.recording_judge.proofs.same_events.same_keys.Given as goal

abbrev pub invariant-loop-key : goal.invariant-loop-key
invariant-loop-key l = record {
  back : l.rest ≡ l.left → l.keys ≡ l.others;
  forth : l.keys ≡ l.others → l.rest ≡ l.left;
}

abbrev pub decreases-loop-key : goal.decreases-loop-key
decreases-loop-key l = length l.rest
