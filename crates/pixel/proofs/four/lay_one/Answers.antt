-- The pixel with the colour over it stands in place of the pixel before.
use Rattle.std.proofs.Common.{◌+◌, ◌-◌, ◌*◌, take, drop, arith, ap, ◌∙◌}
use Rattle.pixel.specs.Colours.{blend}
use Rattle.pixel.specs.Rows.{pixel}
use Rattle.pixel.proofs.Parts.{part_made, run_length, laid_pixel}
use Rattle.pixel.proofs.four.lay_one.Goals as goal

pub returns : goal.returns
returns c =
    let long = run_length c.args.k 1 c.args.surface.now (omega arith) in
    let old = take (4 * (c.args.k + 1) - 4 * c.args.k) (drop (4 * c.args.k) c.args.surface.now) in
    part_made c.args.k 1 (λ j below. blend below c.args.colour) c.args.surface.now c.over_row.new.dst (omega arith) (omega arith)
    (λ j lt.
    laid_pixel 4 old c.fill_row.new.dst c.over_row.new.dst (λ i short. c.over_row.ensures.bytes i (omega (arith, long))) j (omega arith)
    ∙ ap (blend (pixel old j)) (c.fill_row.ensures.pixels j lt))
    c.over_row.ensures.premultiplied
