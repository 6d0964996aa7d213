-- The colour is that of the row's pixel.
use Rattle.std.proofs.Common.{◌≡◌, ◌+◌, ◌-◌, ap, ◌∙◌, subst, arith}
use Rattle.pixel.specs.Colours.{blend}
use Rattle.pixel.specs.Rows.{pixel}
use Rattle.pixel.specs.Surfaces.{EachPixel, within_rows}
use Rattle.pixel.specs.declared.surface.Area.{Area}
use Rattle.pixel.specs.inner.Columns.{columns_of}
use Rattle.pixel.proofs.Areas.{each_like}
use Rattle.pixel.proofs.rows.row_over_column.Goals as goal

pub returns-clause-pixels : goal.returns-clause-pixels
returns-clause-pixels c =
    let each =
    subst (λ (a : Area). EachPixel c.args.size.width c.args.size.height (within_rows a a.h (λ x y below. blend below c.colour_at-colour.result)) c.args.surface.now c.colour_over_area.new.surface)
    c.columns-column.ensures c.colour_over_area.ensures.pixels in
    each_like c.args.size.width c.args.size.height (columns_of c.args.at c.args.first 1) (λ x y below. blend below c.colour_at-colour.result)
    (λ x y below. blend below (pixel c.args.row.now (x - c.args.at.x + c.args.from))) c.args.surface.now c.colour_over_area.new.surface each
    (λ x y below low high.
    let place : c.args.from + c.args.first ≡ x - c.args.at.x + c.args.from = omega (arith, low, high) in
    ap (blend below) (c.colour_at-colour.ensures ∙ ap (pixel c.args.row.now) place))
