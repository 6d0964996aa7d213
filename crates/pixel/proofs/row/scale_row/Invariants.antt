use Rattle.std.specs.Prelude.{◌≤◌, ◌-◌, length}
use Rattle.pixel.specs.Rows.{IsFaded}
use Rattle.pixel.proofs.row.scale_row.Given as given

abbrev pub invariant-sixteens : given.invariant-sixteens
invariant-sixteens l = record { within : l.at ≤ length l.row; faded : IsFaded 0 l.at l.opacity l.fn.row l.row }

abbrev pub decreases-sixteens : given.decreases-sixteens
decreases-sixteens l = length l.initial.row - l.at

abbrev pub invariant-ones : given.invariant-ones
invariant-ones l = record { within : l.at ≤ length l.row; faded : IsFaded 0 l.at l.opacity l.fn.row l.row }

abbrev pub decreases-ones : given.decreases-ones
decreases-ones l = length l.initial.row - l.at
