-- The changes that were not looked at list the layer as changed whole, if some change does.
use Rattle.std.proofs.Common.{◌≡◌, drop}
use Rattle.region.specs.Lists.{is_listed_whole}
use Rattle.impl_host.proofs.listed_whole.is_listed_whole.Given as goal

abbrev pub invariant-loop-i : goal.invariant-loop-i
invariant-loop-i l = is_listed_whole (drop l.i l.changes.list) l.layer ≡ is_listed_whole l.changes.list l.layer
