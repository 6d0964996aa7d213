-- The tilings that are left are those of the first layers, and the commit leads from them to the active tree's.
use Rattle.std.proofs.Common.{All, length}
use Rattle.impl_host.specs.Trees.{commit_of}
use Rattle.impl_host.specs.inner.Steps.{AreCutAlike, Leads, IsSpareOf}
use Rattle.impl_host.proofs.spare.add_behind.Given as goal

abbrev pub invariant-loop-tiling : goal.invariant-loop-tiling
invariant-loop-tiling l = record {
  cut : AreCutAlike l.tree l.tilings.items;
  leads : Leads l.tree l.tilings.items (commit_of l.active) l.active.page l.active.tilings;
  spares : All (IsSpareOf l.active) l.spares.items;
}

abbrev pub decreases-loop-tiling : goal.decreases-loop-tiling
decreases-loop-tiling l = length l.tilings.items
