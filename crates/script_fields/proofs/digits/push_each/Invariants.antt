use Rattle.std.proofs.Common.{◌≡◌, ◌++◌, take}
use Rattle.script_fields.specs.Hex.{bytes_digits}
use Rattle.script_fields.proofs.digits.push_each.Given as goal

-- the digits of the bytes so far
abbrev pub invariant-loop-byte : goal.invariant-loop-byte
invariant-loop-byte l = l.digits.items ≡ l.initial.digits.items ++ bytes_digits (take l.byte-index l.bytes)
