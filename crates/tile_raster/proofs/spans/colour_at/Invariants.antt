use Rattle.std.proofs.Common.{◌≡◌, take}
use Rattle.std.specs.Prelude.{fold}
use Rattle.pixel.specs.Colours.{clear}
use Rattle.tile_raster.specs.inner.Patches.{spanned}
use Rattle.tile_raster.proofs.spans.colour_at.Given as given

-- what the spans so far show
abbrev pub invariant-loop-span : given.invariant-loop-span
invariant-loop-span l = l.colour ≡ fold (spanned l.x) clear (take l.span-index l.spans)
