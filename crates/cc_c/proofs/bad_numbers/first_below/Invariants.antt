-- No number before this one is below 0 though it may not be.
use Rattle.std.specs.Prelude.{◌≡◌, drop}
use Rattle.cc_c.specs.BadNumbers.{first_below}
use Rattle.cc_c.proofs.bad_numbers.first_below.Given as given

abbrev pub invariant-loop-at : given.invariant-loop-at
invariant-loop-at l = first_below 0 l.wholes l.numbers ≡ first_below l.at (drop l.at l.wholes) (drop l.at l.numbers)
