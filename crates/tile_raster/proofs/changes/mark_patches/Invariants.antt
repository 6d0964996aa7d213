use Rattle.std.proofs.Common.{ℕ, ◌≡◌, ◌+◌, true, false, take}
use Rattle.std.specs.Prelude.{slice_index_or, fold}
use Rattle.pixel.specs.Colours.{clear}
use Rattle.tile_raster.specs.inner.Patches.{patched}
use Rattle.tile_raster.proofs.changes.mark_patches.Given as given

-- where a row is not marked, the patches so far show in it what they show in the row above
abbrev pub invariant-loop-patch : given.invariant-loop-patch
invariant-loop-patch l = (y : ℕ) → slice_index_or l.rows (y + 1) true ≡ false
    → (x : ℕ) → fold (patched x y) clear (take l.patch-index l.patches) ≡ fold (patched x (y + 1)) clear (take l.patch-index l.patches)
