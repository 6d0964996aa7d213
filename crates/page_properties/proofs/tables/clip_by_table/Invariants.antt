-- What is left of the chain, with the common part of what was passed, is the whole; the table tells of translations.
use Rattle.page_properties.specs.OffsetMap.{offset_at}
use Rattle.page_properties.specs.Placement.{both, clip_of, translation}
use Rattle.page_properties.specs.inner.Tables.{IsTable}
use Rattle.page_properties.proofs.Chains.{height}
use Rattle.page_properties.proofs.Walks.{Clipped}
use Rattle.page_properties.proofs.tables.clip_by_table.Given as goal

abbrev pub invariant-loop-node : goal.invariant-loop-node
invariant-loop-node l = record {
  clips : Clipped (offset_at l.offsets) l.transforms l.nodes (both (clip_of (offset_at l.offsets) l.transforms l.nodes l.fn.clip) l.fn.below) l.clip l.inner;
  table : IsTable (translation (offset_at l.offsets) l.transforms) l.table;
}

abbrev pub decreases-loop-node : goal.decreases-loop-node
decreases-loop-node l = height l.clip l.nodes
