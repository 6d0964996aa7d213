-- The run with the row over it stands in place of the run before.
use Rattle.std.proofs.Common.{◌+◌, ◌-◌, ◌*◌, take, drop, arith, ap, ◌∙◌}
use Rattle.pixel.specs.Colours.{blend}
use Rattle.pixel.specs.Rows.{pixel}
use Rattle.pixel.proofs.Parts.{part_made, run_length, laid_pixel, pixel_taken, run_premultiplied}
use Rattle.pixel.proofs.rows.row_over_run.Goals as goal

pub over_row-requires-clause-premultiplied : goal.over_row-requires-clause-premultiplied
over_row-requires-clause-premultiplied c =
    run_premultiplied c.args.from c.args.n (4 * (c.args.from + c.args.n) - 4 * c.args.from) c.args.row.now (omega arith) c.requires.given
    c.requires.premultiplied

pub returns : goal.returns
returns c =
    let m = 4 * (c.args.from + c.args.n) - 4 * c.args.from in
    let long = run_length c.args.k c.args.n c.args.surface.now (omega arith) in
    let old = take (4 * (c.args.k + c.args.n) - 4 * c.args.k) (drop (4 * c.args.k) c.args.surface.now) in
    let row = take m (drop (4 * c.args.from) c.args.row.now) in
    part_made c.args.k c.args.n (λ j below. blend below (pixel c.args.row.now (c.args.from + j))) c.args.surface.now c.over_row.new.dst
    (omega arith) (omega arith)
    (λ j lt.
    laid_pixel (4 * c.args.n) old row c.over_row.new.dst (λ i short. c.over_row.ensures.bytes i (omega (arith, long))) j (omega arith)
    ∙ ap (blend (pixel old j)) (pixel_taken c.args.from c.args.n m c.args.row.now j lt (omega arith)))
    c.over_row.ensures.premultiplied
