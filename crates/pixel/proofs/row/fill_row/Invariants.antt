use Rattle.std.specs.Prelude.{◌%◌, ◌≤◌, ◌-◌, ◌≡◌, length}
use Rattle.pixel.specs.Rows.{IsFilled}
use Rattle.pixel.proofs.row.fill_row.Given as given

abbrev pub invariant-sixty_fours : given.invariant-sixty_fours
invariant-sixty_fours l = record {
  whole : l.at % 4 ≡ 0;
  within : l.at ≤ length l.dst;
  filled : IsFilled 0 l.at l.fn.colour l.initial.dst l.dst;
}

abbrev pub decreases-sixty_fours : given.decreases-sixty_fours
decreases-sixty_fours l = length l.initial.dst - l.at

abbrev pub invariant-sixteens : given.invariant-sixteens
invariant-sixteens l = record {
  whole : l.at % 4 ≡ 0;
  within : l.at ≤ length l.dst;
  filled : IsFilled 0 l.at l.fn.colour l.initial.dst l.dst;
}

abbrev pub decreases-sixteens : given.decreases-sixteens
decreases-sixteens l = length l.initial.dst - l.at

abbrev pub invariant-pixels : given.invariant-pixels
invariant-pixels l = record {
  whole : l.at % 4 ≡ 0;
  within : l.at ≤ length l.dst;
  filled : IsFilled 0 l.at l.fn.colour l.initial.dst l.dst;
}

abbrev pub decreases-pixels : given.decreases-pixels
decreases-pixels l = length l.initial.dst - l.at
