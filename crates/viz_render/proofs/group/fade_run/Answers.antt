-- The run with the pass over it stands in place of the run before.
use Rattle.std.proofs.Common.{◌+◌, ◌-◌, ◌*◌, take, drop, arith, ap, ◌∙◌}
use Rattle.pixel.specs.Colours.{Parts, blend, scaled}
use Rattle.pixel.specs.Rows.{pixel}
use Rattle.pixel.proofs.Parts.{part_made, run_length, pixel_taken, run_premultiplied}
use Rattle.viz_render.proofs.group.fade_run.Goals as goal

pub faded_over-requires-clause-premultiplied : goal.faded_over-requires-clause-premultiplied
faded_over-requires-clause-premultiplied c =
    run_premultiplied c.args.from c.args.n (4 * (c.args.from + c.args.n) - 4 * c.args.from) c.args.pass.now (omega arith) c.requires.given
    c.requires.premultiplied

pub returns : goal.returns
returns c =
    let m = 4 * (c.args.from + c.args.n) - 4 * c.args.from in
    let long = run_length c.args.k c.args.n c.args.surface.now c.requires.there in
    let old = take (4 * (c.args.k + c.args.n) - 4 * c.args.k) (drop (4 * c.args.k) c.args.surface.now) in
    part_made c.args.k c.args.n (λ j below. blend below (scaled (pixel c.args.pass.now (c.args.from + j)) c.args.opacity)) c.args.surface.now c.faded_over.new.surface
    (omega arith) c.requires.there
    (λ j lt.
    c.faded_over.ensures.pixels j (omega (arith, long))
    ∙ ap (λ (p : Parts). blend (pixel old j) (scaled p c.args.opacity)) (pixel_taken c.args.from c.args.n m c.args.pass.now j lt (omega arith)))
    c.faded_over.ensures.premultiplied
