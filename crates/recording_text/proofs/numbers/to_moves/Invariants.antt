-- The moves made, before those of the numbers left, are the moves of all.
use Rattle.std.proofs.Common.{◌≡◌, length}
use Rattle.recording_text.specs.Numbers.{moves_of}
use Rattle.recording_text.specs.Gathering.{prefixed_by}
use Rattle.recording_text.proofs.numbers.to_moves.Given as goal

abbrev pub invariant-loop-rest : goal.invariant-loop-rest
invariant-loop-rest l = prefixed_by l.moves (moves_of l.rest) ≡ moves_of l.numbers

abbrev pub decreases-loop-rest : goal.decreases-loop-rest
decreases-loop-rest l = length l.rest
