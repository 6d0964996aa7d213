-- A number of both would lie after the end of one and before that of the other.
use Rattle.std.proofs.Common.{pos, ◌+ℤ◌, arith}
use Rattle.std.proofs.lemmas.Int.{ints}
use Rattle.geom.proofs.Spans.{inside}
use Rattle.viz_render.proofs.Hulls.{fails}
use Rattle.viz_render.proofs.Tiles.{near_is}
use Rattle.viz_render.proofs.beside.are_apart.Goals as goal

pub returns-then-at-len : goal.returns-then-at-len
returns-then-at-len c = λ t n lt.
    fails _ (λ on.
    let i = inside c.args.at c.args.len (c.args.from +ℤ pos n) on in
    let low = i.low in
    let high = i.high in
    let count = near_is c.args.count c.requires.axis.length_low in
    absurd (omega (arith, ints)))

pub returns-else-at-len : goal.returns-else-at-len
returns-else-at-len c = λ t n lt.
    fails _ (λ on.
    let i = inside c.args.at c.args.len (c.args.from +ℤ pos n) on in
    let low = i.low in
    let high = i.high in
    let count = near_is c.args.count c.requires.axis.length_low in
    absurd (omega (arith, ints)))
