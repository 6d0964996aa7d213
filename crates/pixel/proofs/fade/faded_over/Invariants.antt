use Rattle.std.proofs.Common.{◌≤◌, ◌-◌}
use Rattle.pixel.specs.Colours.{blend, scaled}
use Rattle.pixel.specs.Rows.{pixel}
use Rattle.pixel.specs.Surfaces.{IsPart}
use Rattle.pixel.proofs.fade.faded_over.Given as given

abbrev pub invariant-sixteens : given.invariant-sixteens
invariant-sixteens l = record {
  inside : l.done ≤ l.count;
  part : IsPart 0 l.done (λ j below. blend below (scaled (pixel l.pass j) l.opacity)) l.fn.surface l.surface;
}

abbrev pub decreases-sixteens : given.decreases-sixteens
decreases-sixteens l = l.count - l.done

abbrev pub invariant-fours : given.invariant-fours
invariant-fours l = record {
  inside : l.done ≤ l.count;
  part : IsPart 0 l.done (λ j below. blend below (scaled (pixel l.pass j) l.opacity)) l.fn.surface l.surface;
}

abbrev pub decreases-fours : given.decreases-fours
decreases-fours l = l.count - l.done

abbrev pub invariant-ones : given.invariant-ones
invariant-ones l = record {
  inside : l.done ≤ l.count;
  part : IsPart 0 l.done (λ j below. blend below (scaled (pixel l.pass j) l.opacity)) l.fn.surface l.surface;
}

abbrev pub decreases-ones : given.decreases-ones
decreases-ones l = l.count - l.done
