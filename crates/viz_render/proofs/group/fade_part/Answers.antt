-- Each row adds what it draws to what was drawn.
use Rattle.std.proofs.Common.{ℕ, ◌+◌, ◌-◌, ◌*◌, ◌≡◌, arith, subst, ap}
use Rattle.pixel.specs.Colours.{blend, scaled}
use Rattle.pixel.specs.Rows.{pixel}
use Rattle.pixel.specs.Surfaces.{IsPart}
use Rattle.pixel.specs.Views.{pixel_in}
use Rattle.pixel.proofs.Steps.{row_step}
use Rattle.pixel.proofs.Parts.{part_like, image_place}
use Rattle.viz_render.proofs.group.fade_part.Goals as goal

pub loop-row-preserved : goal.loop-row-preserved
loop-row-preserved c =
    let at = c.args.part.at in
    let row = c.loop-row.row in
    let bytes = c.args.pass.now.bytes in
    let wide = c.args.pass.now.size.width in
    let from : c.place_of-from.result ≡ (c.args.part.above + row) * wide + c.args.part.left = rw (c.size.ensures.value) at c.place_of-from.ensures.value in
    let there =
    part_like c.place_of-place.result at.w (λ j below. blend below (scaled (pixel bytes (c.place_of-from.result + j)) c.args.opacity))
    (λ j below. blend below (scaled (pixel bytes ((at.y + row - at.y + c.args.part.above) * wide + (at.x + j - at.x + c.args.part.left))) c.args.opacity))
    c.loop-row.surface c.fade_run.new.surface (rw (c.bytes-pixels.ensures.value) at c.fade_run.ensures)
    (λ j below lt. ap (λ (k : ℕ). blend below (scaled (pixel bytes k) c.args.opacity))
    (image_place at.x at.y wide c.args.part.left c.args.part.above row j c.place_of-from.result from)) in
    let part = subst (λ (k : ℕ). IsPart k at.w (λ j below. blend below (scaled (pixel bytes ((at.y + row - at.y + c.args.part.above) * wide + (at.x + j - at.x + c.args.part.left))) c.args.opacity)) c.loop-row.surface c.fade_run.new.surface) c.place_of-place.ensures.value there in
    record {
      pixels =
          row_step c.args.size.width c.args.size.height at row (λ x y below. blend below (scaled (pixel_in c.args.pass.now (x - at.x + c.args.part.left) (y - at.y + c.args.part.above)) c.args.opacity)) c.args.surface.now c.loop-row.surface c.fade_run.new.surface
          c.requires.inside (omega arith) c.loop-row.invariant.pixels part;
      premultiplied = λ old. c.fade_run.ensures.premultiplied (c.loop-row.invariant.premultiplied old);
    }
