-- The tilings that are left are those of the first layers, and the tree's commit leads to them from the active tree's.
use Rattle.std.proofs.Common.{ℕ, All, length}
use Rattle.impl_host.specs.inner.Steps.{AreCutAlike, Leads, IsSpareOf}
use Rattle.impl_host.proofs.spare.add_ahead.Given as goal

abbrev pub invariant-loop-tiling : goal.invariant-loop-tiling
invariant-loop-tiling l = record {
  cut : AreCutAlike l.tree l.tilings.items;
  leads : (frame : ℕ) × Leads l.active.page l.active.tilings (record { frame = frame; changed = l.changes }) l.tree l.tilings.items;
  spares : All (IsSpareOf l.active) l.spares.items;
}

abbrev pub decreases-loop-tiling : goal.decreases-loop-tiling
decreases-loop-tiling l = length l.tilings.items
