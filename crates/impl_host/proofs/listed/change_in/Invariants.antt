-- The changes that were not looked at have the change of the layer, if there is one.
use Rattle.std.proofs.Common.{◌≡◌, drop}
use Rattle.region.specs.Lists.{change_of}
use Rattle.impl_host.proofs.listed.change_in.Given as goal

abbrev pub invariant-loop-i : goal.invariant-loop-i
invariant-loop-i l = change_of (drop l.i l.changes.list) l.layer ≡ change_of l.changes.list l.layer
