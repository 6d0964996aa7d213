-- Opaque pixels are copied, clear ones change nothing, and others are laid four by four.
use Rattle.std.proofs.Common.{ℕ, ◌+◌, ◌-◌, ◌∙◌, ap, sym, subst, arith}
use Rattle.pixel.specs.Colours.{blend}
use Rattle.pixel.specs.Rows.{pixel}
use Rattle.pixel.specs.Surfaces.{EachPixel, within_rows}
use Rattle.pixel.specs.declared.surface.Area.{Area}
use Rattle.pixel.specs.inner.Columns.{columns_of}
use Rattle.pixel.proofs.Areas.{each_like, each_same, clear_over, four_times_four, row_place}
use Rattle.pixel.proofs.rows.row_over_sixteen_columns.Goals as goal

pub returns-then-are_sixteen_opaque-clause-pixels : goal.returns-then-are_sixteen_opaque-clause-pixels
returns-then-are_sixteen_opaque-clause-pixels c =
    let start = c.args.from + c.args.first in
    let each =
    subst (λ (a : Area). EachPixel c.args.size.width c.args.size.height (within_rows a a.h (λ x y below. pixel c.args.row.now (start + (x - a.x)))) c.args.surface.now c.copy_over_rows.new.surface)
    c.columns-columns.ensures c.copy_over_rows.ensures.pixels in
    each_like c.args.size.width c.args.size.height (columns_of c.args.at c.args.first 16)
    (λ x y below. pixel c.args.row.now (start + (x - (c.args.at.x + c.args.first))))
    (λ x y below. blend below (pixel c.args.row.now (x - c.args.at.x + c.args.from))) c.args.surface.now c.copy_over_rows.new.surface each
    (λ x y below low high.
    c.are_sixteen_opaque.ensures c.if-are_sixteen_opaque.true (x - (c.args.at.x + c.args.first)) (omega (arith, low, high)) below
    ∙ ap (λ (i : ℕ). blend below (pixel c.args.row.now i)) (row_place x c.args.at.x c.args.first c.args.from 16 0 low high))

pub returns-then-not-are_sixteen_clear-clause-pixels : goal.returns-then-not-are_sixteen_clear-clause-pixels
returns-then-not-are_sixteen_clear-clause-pixels c =
    four_times_four c.args.size.width c.args.size.height c.args.at c.args.first (λ x y below. blend below (pixel c.args.row.now (x - c.args.at.x + c.args.from)))
    c.args.surface.now c.row_over_four_columns.new.surface c.row_over_four_columns-then-not-are_sixteen_clear.new.surface
    c.row_over_four_columns-then-not-are_sixteen_clear-2.new.surface c.row_over_four_columns-then-not-are_sixteen_clear-3.new.surface
    c.row_over_four_columns.ensures.pixels c.row_over_four_columns-then-not-are_sixteen_clear.ensures.pixels
    c.row_over_four_columns-then-not-are_sixteen_clear-2.ensures.pixels c.row_over_four_columns-then-not-are_sixteen_clear-3.ensures.pixels

pub returns-then-not-are_sixteen_clear-clause-premultiplied : goal.returns-then-not-are_sixteen_clear-clause-premultiplied
returns-then-not-are_sixteen_clear-clause-premultiplied c = λ ready.
    c.row_over_four_columns-then-not-are_sixteen_clear-3.ensures.premultiplied
    (c.row_over_four_columns-then-not-are_sixteen_clear-2.ensures.premultiplied
    (c.row_over_four_columns-then-not-are_sixteen_clear.ensures.premultiplied (c.row_over_four_columns.ensures.premultiplied ready)))

pub returns-else-not-are_sixteen_clear-clause-pixels : goal.returns-else-not-are_sixteen_clear-clause-pixels
returns-else-not-are_sixteen_clear-clause-pixels c =
    each_same c.args.size.width c.args.size.height (columns_of c.args.at c.args.first 16) (λ x y below. blend below (pixel c.args.row.now (x - c.args.at.x + c.args.from))) c.args.surface.now
    (λ x y below low high.
    clear_over (pixel c.args.row.now (x - c.args.at.x + c.args.from)) below
    (ap (pixel c.args.row.now) (sym (row_place x c.args.at.x c.args.first c.args.from 16 0 low high))
    ∙ c.are_sixteen_clear.ensures c.if-not-are_sixteen_clear.false (x - (c.args.at.x + c.args.first)) (omega (arith, low, high))))
