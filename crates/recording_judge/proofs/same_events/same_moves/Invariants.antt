-- What is left of both lists is the same exactly where the lists are.
use Rattle.std.proofs.Common.{◌≡◌, length}
use Rattle.recording_judge.proofs.same_events.same_moves.Given as goal

abbrev pub invariant-loop-step : goal.invariant-loop-step
invariant-loop-step l = record {
  back : l.rest ≡ l.left → l.moves ≡ l.others;
  forth : l.moves ≡ l.others → l.rest ≡ l.left;
}

abbrev pub decreases-loop-step : goal.decreases-loop-step
decreases-loop-step l = length l.rest
