-- What is passed is less.
use Rattle.impl_tiles.specs.Passed.{AreLessBefore}
use Rattle.impl_tiles.proofs.near.not_less_from.Given as goal

abbrev pub invariant-loop-at : goal.invariant-loop-at
invariant-loop-at l = AreLessBefore l.keys l.near l.key → AreLessBefore l.keys l.at l.key
