-- The offsets of the rows so far were set.
use Rattle.std.proofs.Common.{ℕ, ◌≡◌, take}
use Rattle.page_properties.specs.OffsetMap.{offset_at, AreOffsets}
use Rattle.impl_scroll.specs.inner.Stages.{point_at}
use Rattle.impl_scroll.specs.inner.Steps.{ids_of}
use Rattle.impl_scroll.proofs.RowOffsets.{among_at}
use Rattle.impl_scroll.proofs.offsets.offsets_of.Given as goal

abbrev pub invariant-loop-row : goal.invariant-loop-row
invariant-loop-row l = record {
  value : (k : ℕ) → offset_at l.offsets k ≡ among_at (ids_of (take l.row-index l.rows)) (point_at l.stage l.page l.rows) k;
  in_range : AreOffsets (offset_at l.offsets);
}
