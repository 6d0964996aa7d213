-- The four pixels are those of the row.
use Rattle.std.proofs.Common.{◌+◌, ◌-◌, ap, ◌∙◌, subst, arith}
use Rattle.pixel.specs.Colours.{blend}
use Rattle.pixel.specs.Rows.{pixel}
use Rattle.pixel.specs.Surfaces.{EachPixel, within_rows}
use Rattle.pixel.specs.declared.surface.Area.{Area}
use Rattle.pixel.specs.inner.Columns.{columns_of}
use Rattle.pixel.proofs.Areas.{each_like, row_place}
use Rattle.pixel.proofs.rows.row_over_four_columns.Goals as goal

pub returns-clause-pixels : goal.returns-clause-pixels
returns-clause-pixels c =
    let each =
    subst (λ (a : Area). EachPixel c.args.size.width c.args.size.height (within_rows a a.h (λ x y below. blend below (pixel c.four_at-pixels.result (x - a.x)))) c.args.surface.now c.four_over_rows.new.surface)
    c.columns-columns.ensures c.four_over_rows.ensures.pixels in
    each_like c.args.size.width c.args.size.height (columns_of c.args.at c.args.first 4)
    (λ x y below. blend below (pixel c.four_at-pixels.result (x - (c.args.at.x + c.args.first))))
    (λ x y below. blend below (pixel c.args.row.now (x - c.args.at.x + c.args.from))) c.args.surface.now c.four_over_rows.new.surface each
    (λ x y below low high.
    ap (blend below)
    (c.four_at-pixels.ensures.pixels (x - (c.args.at.x + c.args.first)) (omega (arith, low, high))
    ∙ ap (pixel c.args.row.now) (row_place x c.args.at.x c.args.first c.args.from 4 0 low high)))
