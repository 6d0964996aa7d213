use Rattle.std.proofs.Common.{◌≡◌, ◌≤◌, ◌-◌, length, drop}
use Rattle.script_fields.specs.Hex.{bytes_of}
use Rattle.script_fields.specs.inner.Fronts.{after}
use Rattle.script_fields.proofs.hex.push_eights.Given as goal

-- what is read, before the bytes of the rest, is the bytes of all
abbrev pub invariant-loop-at : goal.invariant-loop-at
invariant-loop-at l = record {
  inside : l.at ≤ length l.text;
  read : after l.bytes.items (bytes_of (drop l.at l.text)) ≡ after l.initial.bytes.items (bytes_of l.text);
}

abbrev pub decreases-loop-at : goal.decreases-loop-at
decreases-loop-at l = length l.text - l.at
