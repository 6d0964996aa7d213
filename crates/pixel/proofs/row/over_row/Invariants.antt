use Rattle.std.specs.Prelude.{◌%◌, ◌≤◌, ◌-◌, ◌≡◌, length}
use Rattle.pixel.specs.Rows.{IsLaid}
use Rattle.pixel.proofs.row.over_row.Given as given

abbrev pub invariant-sixty_fours : given.invariant-sixty_fours
invariant-sixty_fours l = record {
  whole : l.at % 4 ≡ 0;
  within : l.at ≤ length l.dst;
  laid : IsLaid 0 l.at l.src l.fn.dst l.dst;
}

abbrev pub decreases-sixty_fours : given.decreases-sixty_fours
decreases-sixty_fours l = length l.initial.dst - l.at

abbrev pub invariant-sixteens : given.invariant-sixteens
invariant-sixteens l = record {
  whole : l.at % 4 ≡ 0;
  within : l.at ≤ length l.dst;
  laid : IsLaid 0 l.at l.src l.fn.dst l.dst;
}

abbrev pub decreases-sixteens : given.decreases-sixteens
decreases-sixteens l = length l.initial.dst - l.at

abbrev pub invariant-ones : given.invariant-ones
invariant-ones l = record {
  within : l.at ≤ length l.dst;
  laid : IsLaid 0 l.at l.src l.fn.dst l.dst;
}

abbrev pub decreases-ones : given.decreases-ones
decreases-ones l = length l.initial.dst - l.at
