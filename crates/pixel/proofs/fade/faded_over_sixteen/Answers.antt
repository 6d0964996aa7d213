-- The block stands in place of the pixels before; transparent pixels change nothing.
use Rattle.std.proofs.Common.{◌+◌, ◌-◌, ◌*◌, take, drop, arith, ap, ◌∙◌}
use Rattle.pixel.specs.Colours.{Parts, blend, scaled}
use Rattle.pixel.specs.Rows.{pixel}
use Rattle.pixel.proofs.Parts.{part_made, pixel_taken, run_premultiplied}
use Rattle.pixel.proofs.Areas.{clear_faded, part_same}
use Rattle.pixel.proofs.fade.faded_over_sixteen.Goals as goal

pub faded_over_block-requires-clause-premultiplied : goal.faded_over_block-requires-clause-premultiplied
faded_over_block-requires-clause-premultiplied c =
    run_premultiplied c.args.k 16 (4 * (c.args.k + 16) - 4 * c.args.k) c.args.pass.now (omega arith) c.requires.given c.requires.premultiplied

pub returns-then-not-are_sixteen_clear : goal.returns-then-not-are_sixteen_clear
returns-then-not-are_sixteen_clear c =
    let m = 4 * (c.args.k + 16) - 4 * c.args.k in
    let old = take m (drop (4 * c.args.k) c.args.surface.now) in
    part_made c.args.k 16 (λ j below. blend below (scaled (pixel c.args.pass.now (c.args.k + j)) c.args.opacity)) c.args.surface.now
    c.faded_over_block.new.surface (omega arith) c.requires.inside
    (λ j lt.
    c.faded_over_block.ensures.pixels j lt
    ∙ ap (λ (p : Parts). blend (pixel old j) (scaled p c.args.opacity)) (pixel_taken c.args.k 16 m c.args.pass.now j lt (omega arith)))
    c.faded_over_block.ensures.premultiplied

pub returns-else-not-are_sixteen_clear : goal.returns-else-not-are_sixteen_clear
returns-else-not-are_sixteen_clear c =
    part_same c.args.k 16 (λ j below. blend below (scaled (pixel c.args.pass.now (c.args.k + j)) c.args.opacity)) c.args.surface.now
    (λ j lt below.
    clear_faded (pixel c.args.pass.now (c.args.k + j)) c.args.opacity below (c.are_sixteen_clear.ensures c.if-not-are_sixteen_clear.false j lt))
