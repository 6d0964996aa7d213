use Rattle.std.proofs.Common.{ℕ, ◌≡◌, take}
use Rattle.std.specs.Prelude.{fold}
use Rattle.pixel.specs.Colours.{clear}
use Rattle.tile_raster.specs.inner.Patches.{patched, spans_show}
use Rattle.tile_raster.proofs.patches.put_spans.Given as given

-- the spans so far show what the patches so far show in the row
abbrev pub invariant-loop-patch : given.invariant-loop-patch
invariant-loop-patch l = (x : ℕ) → spans_show l.spans.items x ≡ fold (patched x l.y) clear (take l.patch-index l.patches)
