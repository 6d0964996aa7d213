-- The pixels before the place are copied.
use Rattle.std.specs.Prelude.{◌≡◌, ◌≤◌, ◌-◌, length, true}
use Rattle.cc_c.specs.Copies.{IsRowCopied}
use Rattle.cc_c.proofs.exchange.copy_exchanged.Given as given

abbrev pub invariant-fours : given.invariant-fours
invariant-fours l = record {
  within : l.place ≤ l.count;
  length : length l.to ≡ length l.fn.to;
  row : IsRowCopied true l.place l.at l.row l.fn.to l.to;
}

abbrev pub decreases-fours : given.decreases-fours
decreases-fours l = l.count - l.place

abbrev pub invariant-ones : given.invariant-ones
invariant-ones l = record {
  within : l.place ≤ l.count;
  length : length l.to ≡ length l.fn.to;
  row : IsRowCopied true l.place l.at l.row l.fn.to l.to;
}

abbrev pub decreases-ones : given.decreases-ones
decreases-ones l = l.count - l.place
