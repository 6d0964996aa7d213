-- Each row adds what it draws to what was drawn.
use Rattle.std.proofs.Common.{ℕ, ◌+◌, ◌-◌, ◌*◌, ◌≡◌, ◌∙◌, arith, subst, ap}
use Rattle.pixel.specs.Colours.{blend}
use Rattle.pixel.specs.Rows.{pixel}
use Rattle.pixel.specs.Surfaces.{IsPart}
use Rattle.pixel.specs.Views.{pixel_in}
use Rattle.pixel.proofs.Steps.{row_step}
use Rattle.pixel.proofs.Parts.{part_like, image_place}
use Rattle.pixel.proofs.surface.image_over_area.Goals as goal

pub loop-row-preserved : goal.loop-row-preserved
loop-row-preserved c =
    let at = c.args.at in
    let row = c.loop-row.row in
    let bytes = c.args.image.now.bytes in
    let wide = c.args.image.now.size.width in
    let from : c.place_of-from.result ≡ (c.args.from_y + row) * wide + c.args.from_x = rw (c.size.ensures.value) at c.place_of-from.ensures.value in
    let there =
    part_like c.place_of-place.result at.w (λ j below. blend below (pixel bytes (c.place_of-from.result + j)))
    (λ j below. blend below (pixel bytes ((at.y + row - at.y + c.args.from_y) * wide + (at.x + j - at.x + c.args.from_x))))
    c.loop-row.surface c.row_over_run.new.surface (rw (c.bytes-pixels.ensures.value) at c.row_over_run.ensures)
    (λ j below lt. ap (λ (k : ℕ). blend below (pixel bytes k))
    (image_place at.x at.y wide c.args.from_x c.args.from_y row j c.place_of-from.result from)) in
    let part = subst (λ (k : ℕ). IsPart k at.w (λ j below. blend below (pixel bytes ((at.y + row - at.y + c.args.from_y) * wide + (at.x + j - at.x + c.args.from_x)))) c.loop-row.surface c.row_over_run.new.surface) c.place_of-place.ensures.value there in
    record {
      pixels =
          row_step c.args.size.width c.args.size.height at row (λ x y below. blend below (pixel_in c.args.image.now (x - at.x + c.args.from_x) (y - at.y + c.args.from_y))) c.args.surface.now c.loop-row.surface c.row_over_run.new.surface
          c.requires.inside (omega arith) c.loop-row.invariant.pixels part;
      premultiplied = λ old. c.row_over_run.ensures.premultiplied (c.loop-row.invariant.premultiplied old);
    }
