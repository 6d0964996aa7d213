-- What was added, and what the pixels left give, is what all of them give.
use Rattle.std.proofs.Common.{◌≡◌, ◌++◌, length}
use Rattle.recording_text.specs.Images.{rgb_of}
use Rattle.recording_text.proofs.image.push_pixels.Given as goal

abbrev pub invariant-loop-rest : goal.invariant-loop-rest
invariant-loop-rest l = l.text.items ++ rgb_of l.rest ≡ l.fn.text.items ++ rgb_of l.rgba

abbrev pub decreases-loop-rest : goal.decreases-loop-rest
decreases-loop-rest l = length l.rest
