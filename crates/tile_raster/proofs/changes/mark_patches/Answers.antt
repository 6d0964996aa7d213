-- The rows that are not marked stay the same with one more patch.
use Rattle.std.proofs.Common.{◌+◌, List, subst}
use Rattle.std.proofs.lemmas.List.{take_all}
use Rattle.tile_raster.specs.declared.patches.Patch.{Patch}
use Rattle.tile_raster.specs.inner.Patches.{AreLevelPatches}
use Rattle.tile_raster.proofs.PatchRows.{level_more}
use Rattle.tile_raster.proofs.changes.mark_patches.Goals as goal

pub loop-patch-preserved : goal.loop-patch-preserved
loop-patch-preserved c = λ y same x.
    level_more c.args.patches.now c.loop-patch.patch-index x y c.patch-item.result c.loop-patch-test.true c.patch-item.is
    (c.loop-patch.invariant y (c.mark_patch.ensures.kept (y + 1) same) x) (c.mark_patch.ensures.level y same x)

pub returns : goal.returns
returns c = λ y same.
    subst (λ (l : List Patch). AreLevelPatches l y) (take_all c.loop-patch.patch-index c.args.patches.now c.loop-patch-test.false)
    (c.loop-patch.invariant y same)
