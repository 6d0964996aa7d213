-- The run of the row stands in place of the run before.
use Rattle.std.proofs.Common.{◌+◌, ◌-◌, ◌*◌, arith}
use Rattle.pixel.specs.Rows.{pixel}
use Rattle.pixel.proofs.Parts.{part_made, run_length, pixel_taken, run_premultiplied}
use Rattle.pixel.proofs.rows.copy_run.Goals as goal

pub returns : goal.returns
returns c =
    let m = 4 * (c.args.from + c.args.n) - 4 * c.args.from in
    let long = run_length c.args.from c.args.n c.args.row.now c.requires.given in
    rw (c.copy_from_slice.ensures.after)
    (part_made c.args.k c.args.n (λ j below. pixel c.args.row.now (c.args.from + j)) c.args.surface.now _ long c.requires.there
    (λ j lt. pixel_taken c.args.from c.args.n m c.args.row.now j lt (omega arith))
    (λ _. run_premultiplied c.args.from c.args.n m c.args.row.now (omega arith) c.requires.given c.requires.premultiplied))
