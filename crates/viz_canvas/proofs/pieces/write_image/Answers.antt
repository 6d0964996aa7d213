-- Each row adds what it writes to what was written.
use Rattle.std.proofs.Common.{ℕ, ◌+◌, ◌-◌, ◌≡◌, List, arith, subst, ap, ◌∙◌}
use Rattle.pixel.specs.Rows.{pixel}
use Rattle.tile_raster.specs.Images.{list_colour}
use Rattle.viz_canvas.specs.Formats.{bytes_at}
use Rattle.viz_canvas.specs.inner.Parts.{PartOf}
use Rattle.viz_canvas.proofs.EachSteps.{row_step}
use Rattle.viz_canvas.proofs.StripSteps.{part_like}
use Rattle.viz_canvas.proofs.pieces.write_image.Goals as goal

pub loop-row-preserved : goal.loop-row-preserved
loop-row-preserved g c =
    let d = g.F.PixelFormat.DEPTH in
    let bytes_of = g.F.PixelFormat.bytes_of in
    let at = c.args.at in
    let image = c.args.image.now in
    let row = c.loop-row.row in
    let pixels = c.image_row-pixels.result.now in
    let wanted : ℕ → List ℕ → List ℕ =
    λ j below. bytes_of (list_colour image.list image.rect (c.args.left + (at.x + j - at.x)) (c.args.above + (at.y + row - at.y))) in
    let columns = c.requires.columns in
    let there =
    part_like (bytes_at d) c.place_of-place.result at.w (λ j below. bytes_of (pixel pixels (c.args.left + j))) wanted c.loop-row.bytes c.write_run.new.bytes c.write_run.ensures
    (λ j below lt.
    let column : c.args.left + j ≡ c.args.left + (at.x + j - at.x) = omega arith in
    let down : c.args.above + row ≡ c.args.above + (at.y + row - at.y) = omega arith in
    ap bytes_of (c.image_row-pixels.ensures.pixels (c.args.left + j) (omega arith)
    ∙ ap (λ (k : ℕ). list_colour image.list image.rect k (c.args.above + row)) column
    ∙ ap (list_colour image.list image.rect (c.args.left + (at.x + j - at.x))) down)) in
    let part = subst (λ (k : ℕ). PartOf (bytes_at d) k at.w wanted c.loop-row.bytes c.write_run.new.bytes) c.place_of-place.ensures.value there in
    row_step (bytes_at d) c.args.band.across c.args.band.rows at
    (λ x y below. bytes_of (list_colour image.list image.rect (c.args.left + (x - at.x)) (c.args.above + (y - at.y))))
    c.args.bytes.now c.loop-row.bytes c.write_run.new.bytes row
    c.requires.inside (omega arith) c.loop-row.invariant part
