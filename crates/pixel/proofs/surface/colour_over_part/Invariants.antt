use Rattle.std.proofs.Common.{◌≤◌, ◌-◌}
use Rattle.pixel.specs.Colours.{blend}
use Rattle.pixel.specs.Surfaces.{IsPart}
use Rattle.pixel.proofs.surface.colour_over_part.Given as given

abbrev pub invariant-fours : given.invariant-fours
invariant-fours l = record {
  inside : l.done ≤ l.n;
  part : IsPart l.k l.done (λ j below. blend below l.fn.colour) l.fn.surface l.surface;
}

abbrev pub decreases-fours : given.decreases-fours
decreases-fours l = l.n - l.done

abbrev pub invariant-ones : given.invariant-ones
invariant-ones l = record {
  inside : l.done ≤ l.n;
  part : IsPart l.k l.done (λ j below. blend below l.fn.colour) l.fn.surface l.surface;
}

abbrev pub decreases-ones : given.decreases-ones
decreases-ones l = l.n - l.done
