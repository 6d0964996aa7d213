-- The keys made, before those of the numbers left, are the keys of all.
use Rattle.std.proofs.Common.{◌≡◌, length}
use Rattle.recording_text.specs.Numbers.{keys_from}
use Rattle.recording_text.specs.Gathering.{prefixed_by}
use Rattle.recording_text.proofs.numbers.to_keys.Given as goal

abbrev pub invariant-loop-rest : goal.invariant-loop-rest
invariant-loop-rest l = prefixed_by l.keys (keys_from l.rest) ≡ keys_from l.numbers

abbrev pub decreases-loop-rest : goal.decreases-loop-rest
decreases-loop-rest l = length l.rest
