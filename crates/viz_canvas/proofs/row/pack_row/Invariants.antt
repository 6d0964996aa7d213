-- The pixels before the place are packed.
use Rattle.std.specs.Prelude.{◌*◌, ◌-◌, ◌≤◌, length}
use Rattle.viz_canvas.specs.inner.Packing.{ArePacked}
use Rattle.viz_canvas.proofs.row.pack_row.Given as given

abbrev pub invariant-sixteens : given.invariant-sixteens
invariant-sixteens l = record {
  within : 3 * l.place ≤ length l.packed;
  packed : ArePacked 0 l.place l.row l.fn.packed l.packed;
}

abbrev pub decreases-sixteens : given.decreases-sixteens
decreases-sixteens l = length l.initial.packed - 3 * l.place

abbrev pub invariant-fours : given.invariant-fours
invariant-fours l = record {
  within : 3 * l.place ≤ length l.packed;
  packed : ArePacked 0 l.place l.row l.fn.packed l.packed;
}

abbrev pub decreases-fours : given.decreases-fours
decreases-fours l = length l.initial.packed - 3 * l.place

abbrev pub invariant-ones : given.invariant-ones
invariant-ones l = record {
  within : 3 * l.place ≤ length l.packed;
  packed : ArePacked 0 l.place l.row l.fn.packed l.packed;
}

abbrev pub decreases-ones : given.decreases-ones
decreases-ones l = length l.initial.packed - 3 * l.place
