use Rattle.std.specs.Prelude.{◌≤◌, ◌-◌, length}
use Rattle.pixel.specs.Rows.{IsLaid}
use Rattle.pixel.proofs.plain.over_row_plain.Given as given

abbrev pub invariant-loop-at : given.invariant-loop-at
invariant-loop-at l = record {
  within : l.at ≤ length l.dst;
  laid : IsLaid 0 l.at l.src l.initial.dst l.dst;
}

abbrev pub decreases-loop-at : given.decreases-loop-at
decreases-loop-at l = length l.initial.dst - l.at
