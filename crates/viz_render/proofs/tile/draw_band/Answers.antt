-- The row of the image belongs to each of the rows.
use Rattle.std.proofs.Common.{ℕ, ◌+◌, ◌<◌, subst}
use Rattle.tile_raster.specs.Images.{IsRow, AreSameRows}
use Rattle.viz_render.proofs.Tiles.{band_shown}
use Rattle.viz_render.proofs.tile.draw_band.Goals as goal

pub returns-clause-pixels : goal.returns-clause-pixels
returns-clause-pixels c =
    let number = c.row_number-number.ensures in
    let rows = c.equal_rows_at-rows.result in
    band_shown c.args.size.width c.args.size.height c.args.image.now c.args.part c.args.row rows c.row-pixels.result.now c.args.seen.mask.now.tops c.args.seen.number
    c.args.surface.now c.paint_open.new.surface
    (subst (λ (n : ℕ). IsRow c.args.image.now.list c.args.image.now.rect n c.row-pixels.result.now) number c.row-pixels.ensures)
    (subst (λ (n : ℕ). (k : ℕ) → k < rows → AreSameRows c.args.image.now.list c.args.image.now.rect n (n + k)) number c.equal_rows_at-rows.ensures.equal)
    c.requires.columns c.paint_open.ensures.pixels
