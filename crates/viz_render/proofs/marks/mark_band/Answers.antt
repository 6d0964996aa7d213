-- The row of the image belongs to each of the rows.
use Rattle.std.proofs.Common.{ℕ, ◌+◌, ◌-◌, subst}
use Rattle.pixel.specs.Rows.{pixel}
use Rattle.tile_raster.specs.Images.{IsRow}
use Rattle.viz_render.specs.inner.Drawing.{rows_from, part_pixel}
use Rattle.viz_render.specs.inner.Masks.{HidesIn}
use Rattle.viz_render.proofs.MarkSteps.{marks_like, band_hides}
use Rattle.viz_render.proofs.marks.mark_band.Goals as goal

pub returns : goal.returns
returns c = record {
  marks =
      marks_like c.args.number (HidesIn (rows_from c.args.part.at c.args.row c.args.rows) (λ x y. pixel c.row-pixels.result.now (x - c.args.part.at.x + c.args.part.left)))
      (HidesIn c.args.part.at (part_pixel c.args.image.now c.args.part)) c.args.tops.now c.mark_row.new.tops c.mark_row.ensures.marks
      (band_hides c.args.image.now c.args.part c.args.row c.args.rows c.row-pixels.result.now
      (subst (λ (n : ℕ). IsRow c.args.image.now.list c.args.image.now.rect n c.row-pixels.result.now) c.row_number-number_of_row.ensures c.row-pixels.ensures)
      c.requires.equal c.requires.part.columns c.requires.there);
}
