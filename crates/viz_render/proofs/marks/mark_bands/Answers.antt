-- Each band adds its marks.
use Rattle.std.proofs.Common.{ℕ, ◌+◌, ◌<◌, arith, subst}
use Rattle.tile_raster.specs.Images.{AreSameRows}
use Rattle.viz_render.specs.inner.Drawing.{part_pixel}
use Rattle.viz_render.specs.inner.Masks.{HidesIn}
use Rattle.viz_render.proofs.MarkSteps.{marks_more}
use Rattle.viz_render.proofs.marks.mark_bands.Goals as goal

pub mark_band-requires-clause-equal : goal.mark_band-requires-clause-equal
mark_band-requires-clause-equal c =
    subst (λ (n : ℕ). (k : ℕ) → k < c.equal_rows_at-rows.result → AreSameRows c.args.image.now.list c.args.image.now.rect n (n + k))
    c.row_number-row.ensures c.equal_rows_at-rows.ensures.equal

pub loop-done-preserved : goal.loop-done-preserved
loop-done-preserved c = record {
  inside = omega (arith, c.equal_rows_at-rows.ensures.most);
  marks =
      marks_more c.args.number (HidesIn c.args.part.at (part_pixel c.args.image.now c.args.part)) c.args.tops.now c.loop-done.tops c.mark_band.new.tops
      c.loop-done.invariant.marks c.mark_band.ensures.marks;
}
