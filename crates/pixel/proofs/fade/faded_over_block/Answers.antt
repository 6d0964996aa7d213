-- Four times four pixels, one after another.
use Rattle.std.proofs.Common.{ℕ, ◌+◌, refl}
use Rattle.pixel.specs.Colours.{Parts, blend, scaled}
use Rattle.pixel.specs.Rows.{pixel}
use Rattle.pixel.proofs.Areas.{nothing_changed, part_more_front, part_whole}
use Rattle.pixel.proofs.fade.faded_over_block.Goals as goal

pub returns-clause-pixels : goal.returns-clause-pixels
returns-clause-pixels c = λ j lt.
    let f : ℕ → Parts → Parts = λ i below. blend below (scaled (pixel c.args.pass.now i) c.args.opacity) in
    let old = c.args.surface.now in
    let one = c.faded_over_four.new.surface in
    let two = c.faded_over_four-2.new.surface in
    let three = c.faded_over_four-3.new.surface in
    let four = c.faded_over_four-4.new.surface in
    let a = part_more_front 0 4 f (λ i. f (0 + i)) old old one (nothing_changed 0 f old) c.faded_over_four.ensures (λ i below lt. refl) in
    let b = part_more_front 4 4 f (λ i. f (4 + i)) old one two a c.faded_over_four-2.ensures (λ i below lt. refl) in
    let d = part_more_front 8 4 f (λ i. f (8 + i)) old two three b c.faded_over_four-3.ensures (λ i below lt. refl) in
    let e = part_more_front 12 4 f (λ i. f (12 + i)) old three four d c.faded_over_four-4.ensures (λ i below lt. refl) in
    part_whole 16 f old four e j lt

pub returns-clause-premultiplied : goal.returns-clause-premultiplied
returns-clause-premultiplied c = λ ready.
    c.faded_over_four-4.ensures.premultiplied
    (c.faded_over_four-3.ensures.premultiplied (c.faded_over_four-2.ensures.premultiplied (c.faded_over_four.ensures.premultiplied ready)))
