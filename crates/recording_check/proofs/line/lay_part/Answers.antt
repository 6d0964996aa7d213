-- The layer is laid over the columns that it covers.
use Rattle.std.proofs.Common.{arith, ◌*◌, ◌≤◌, length, pos, ap, ◌∙◌}
use Rattle.std.proofs.lemmas.List.{length-take-le}
use Rattle.geom.specs.declared.rect.Point.{Point}
use Rattle.page_properties.specs.Placement.{minus}
use Rattle.recording_check.proofs.RowFacts.{laid}
use Rattle.recording_check.proofs.line.lay_part.Goals as goal

pub slice_bounds-columns-end-2 : goal.slice_bounds-columns-end-2
slice_bounds-columns-end-2 c =
    let across = c.requires.shared.inside.across in
    let most : 4 * c.args.part.at.w ≤ length c.args.line.now = omega (arith, across, c.requires.line) in
    let front = length-take-le (4 * c.args.part.at.w) c.args.line.now most in
    omega (arith, front)

pub new-pixels-requires-clause-room : goal.new-pixels-requires-clause-room
new-pixels-requires-clause-room c = omega (arith, c.draw_row.ensures.size)

pub returns-clause-pixels : goal.returns-clause-pixels
returns-clause-pixels c =
    let from = c.point_at-from.ensures.value ∙ ap (λ (b : Point). minus (record { x = pos c.args.part.at.x; y = pos c.args.at.y }) b) c.by.ensures.value in
    laid c.args.at.tile c.args.layer.now c.args.at.width c.args.at.y c.args.part c.point_at-from.result c.args.row.now c.draw_row.new.row c.image_over_area.new.surface c.requires.shared from c.draw_row.ensures.pixels
    (rw (c.new-pixels.ensures) at c.image_over_area.ensures.pixels)
