use Rattle.std.proofs.Common.{ℕ, ◌≡◌, ◌≤◌, ◌<◌, ◌⊎◌, true, false}
use Rattle.std.specs.Prelude.{slice_index_or}
use Rattle.tile_raster.proofs.changes.mark_rows.Given as given

abbrev pub invariant-loop-y : given.invariant-loop-y
invariant-loop-y l = (k : ℕ) → slice_index_or l.rows k true ≡ false → (slice_index_or l.initial.rows k true ≡ false) × ((k < l.from) ⊎ (l.y ≤ k))
