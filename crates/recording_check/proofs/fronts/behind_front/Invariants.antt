-- The rest of the prefix stands before what is left.
use Rattle.std.proofs.Common.{◌≡◌, length}
use Rattle.recording_check.specs.inner.Behind.{behind}
use Rattle.recording_check.proofs.fronts.behind_front.Given as goal

abbrev pub invariant-loop-byte : goal.invariant-loop-byte
invariant-loop-byte l = behind l.left l.rest ≡ behind l.front l.bytes

abbrev pub decreases-loop-byte : goal.decreases-loop-byte
decreases-loop-byte l = length l.left
