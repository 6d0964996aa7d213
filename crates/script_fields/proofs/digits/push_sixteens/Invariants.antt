use Rattle.std.proofs.Common.{◌≡◌, ◌++◌, ◌≤◌, ◌-◌, length, drop}
use Rattle.script_fields.specs.Hex.{bytes_digits}
use Rattle.script_fields.proofs.digits.push_sixteens.Given as goal

-- the digits so far, before those of the rest, are the digits of all
abbrev pub invariant-loop-at : goal.invariant-loop-at
invariant-loop-at l = record {
  inside : l.at ≤ length l.bytes;
  written : l.digits.items ++ bytes_digits (drop l.at l.bytes) ≡ l.initial.digits.items ++ bytes_digits l.bytes;
}

abbrev pub decreases-loop-at : goal.decreases-loop-at
decreases-loop-at l = length l.bytes - l.at
