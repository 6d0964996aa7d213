use Rattle.std.proofs.Common.{◌≡◌, length}
use Rattle.script_fields.specs.Hex.{bytes_of}
use Rattle.script_fields.specs.inner.Fronts.{after}
use Rattle.script_fields.proofs.hex.bytes.Given as goal

-- what is read, before the bytes of the rest, is the bytes of all
abbrev pub invariant-loop-rest : goal.invariant-loop-rest
invariant-loop-rest l = after l.bytes.items (bytes_of l.rest) ≡ bytes_of l.text

abbrev pub decreases-loop-rest : goal.decreases-loop-rest
decreases-loop-rest l = length l.rest
