-- The values from here on were set.
use Rattle.std.proofs.Common.{ℕ, ◌≡◌, ◌≤◌, length, drop}
use Rattle.page_properties.specs.Entries.{find}
use Rattle.page_properties.specs.OffsetMap.{offset_at}
use Rattle.page_layers.specs.Scrolls.{or_origin}
use Rattle.page_layers.proofs.value_offsets.offsets_of.Given as goal

abbrev pub invariant-loop-left : goal.invariant-loop-left
invariant-loop-left l = record {
  within : l.left ≤ length l.values;
  values : (id : ℕ) → offset_at l.offsets id ≡ or_origin (find id (drop l.left l.values));
}

abbrev pub decreases-loop-left : goal.decreases-loop-left
decreases-loop-left l = l.left
