-- The ranks of the layers so far were added.
use Rattle.std.proofs.Common.{◌≡◌, ◌++◌, take}
use Rattle.std.specs.List.{flat_map}
use Rattle.impl_ranks.specs.inner.Pairs.{alone_near}
use Rattle.impl_ranks.proofs.both.all_alone.Given as goal

abbrev pub invariant-loop-layer : goal.invariant-loop-layer
invariant-loop-layer l = l.all.items ≡ l.fn.before.items ++ flat_map (alone_near l.borders l.theirs l.others) (take l.layer-index l.layers)
