-- Opaque pixels are copied.
use Rattle.std.proofs.Common.{ℕ, ◌+◌, ◌-◌, ◌∙◌, ap, subst, arith}
use Rattle.pixel.specs.Colours.{blend}
use Rattle.pixel.specs.Rows.{pixel}
use Rattle.pixel.specs.Surfaces.{EachPixel, within_rows}
use Rattle.pixel.specs.declared.surface.Area.{Area}
use Rattle.pixel.specs.inner.Columns.{columns_of}
use Rattle.pixel.proofs.Areas.{each_like, row_place}
use Rattle.pixel.proofs.rows.row_over_blocks.Goals as goal

pub returns-then-run-gt16-clause-pixels : goal.returns-then-run-gt16-clause-pixels
returns-then-run-gt16-clause-pixels c =
    let start = c.args.from + c.args.first in
    let run = c.opaque_run-run.result in
    let each =
    subst (λ (a : Area). EachPixel c.args.size.width c.args.size.height (within_rows a a.h (λ x y below. pixel c.args.row.now (start + (x - a.x)))) c.args.surface.now c.copy_over_rows.new.surface)
    c.columns-opaque.ensures c.copy_over_rows.ensures.pixels in
    each_like c.args.size.width c.args.size.height (columns_of c.args.at c.args.first run)
    (λ x y below. pixel c.args.row.now (start + (x - (c.args.at.x + c.args.first))))
    (λ x y below. blend below (pixel c.args.row.now (x - c.args.at.x + c.args.from))) c.args.surface.now c.copy_over_rows.new.surface each
    (λ x y below low high.
    c.opaque_run-run.ensures.opaque (x - (c.args.at.x + c.args.first)) (omega (arith, low, high)) below
    ∙ ap (λ (i : ℕ). blend below (pixel c.args.row.now i)) (row_place x c.args.at.x c.args.first c.args.from run 0 low high))
