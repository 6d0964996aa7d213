-- All rows of the picture are drawn.
use Rattle.std.proofs.Common.{◌∙◌, arith}
use Rattle.page_display_list.specs.Bitmaps.{near}
use Rattle.tile_raster.specs.inner.Bands.{IsRepeated}
use Rattle.tile_raster.proofs.KeptRows.{rows_kept}
use Rattle.tile_raster.proofs.Places.{place_below}
use Rattle.tile_raster.proofs.patches.draw_patches.Goals as goal

pub returns : goal.returns
returns c =
    rows_kept c.args._list.now c.args.rect c.args.places.now c.loop-y.bytes c.args.kept
    (λ y lt. place_below (IsRepeated c.args._list.now c.args.rect) (near c.args.rect.h) c.args.places.now c.args.kept y c.requires.steps c.requires.kept lt)
    (c.loop-y.auto.bytes ∙ c.requires.size) c.loop-y.invariant.premultiplied
    (λ x y xw yh. c.loop-y.invariant.drawn x y xw (omega (arith, yh, c.loop-y-test.false, c.height_of-y-end.ensures)))
