-- The numbers found, before those of the bytes left, are the numbers of the line.
use Rattle.std.proofs.Common.{◌≡◌, ◌++◌, length, List, false}
use Rattle.std.specs.Prelude.{ℤ}
use Rattle.recording_text.specs.Numbers.{numbers}
use Rattle.recording_text.specs.Gathering.{prefixed_by}
use Rattle.recording_text.proofs.numbers.read_numbers.Given as goal

abbrev pub invariant-loop-rest : goal.invariant-loop-rest
invariant-loop-rest l = (zs : List ℤ) × (l.found.items ≡ l.fn.found.items ++ zs) × (prefixed_by zs (numbers l.negative l.size l.rest) ≡ numbers false 0 l.bytes)

abbrev pub decreases-loop-rest : goal.decreases-loop-rest
decreases-loop-rest l = length l.rest
