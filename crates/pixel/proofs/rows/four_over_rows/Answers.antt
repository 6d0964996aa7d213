-- Opaque pixels hide what lies below them, and clear ones show it.
use Rattle.std.proofs.Common.{◌-◌, arith}
use Rattle.pixel.specs.Colours.{blend}
use Rattle.pixel.specs.Rows.{pixel}
use Rattle.pixel.proofs.Areas.{each_like, each_same, opaque_laid, clear_over, clear_pixel}
use Rattle.pixel.proofs.rows.four_over_rows.Goals as goal

pub returns-then-are_opaque-clause-pixels : goal.returns-then-are_opaque-clause-pixels
returns-then-are_opaque-clause-pixels c =
    each_like c.args.size.width c.args.size.height c.args.at (λ x y below. pixel c.args.pixels (x - c.args.at.x))
    (λ x y below. blend below (pixel c.args.pixels (x - c.args.at.x))) c.args.surface.now c.put_four_in_rows.new.surface
    c.put_four_in_rows.ensures.pixels
    (λ x y below low high.
    opaque_laid c.args.pixels 0 16 (x - c.args.at.x) below (c.are_opaque.ensures.0 c.if-are_opaque.true) (omega arith) (omega (arith, c.requires.four, low, high)))

pub returns-else-not-are_clear-clause-pixels : goal.returns-else-not-are_clear-clause-pixels
returns-else-not-are_clear-clause-pixels c =
    each_same c.args.size.width c.args.size.height c.args.at (λ x y below. blend below (pixel c.args.pixels (x - c.args.at.x))) c.args.surface.now
    (λ x y below low high.
    clear_over (pixel c.args.pixels (x - c.args.at.x)) below
    (clear_pixel c.args.pixels 0 16 (x - c.args.at.x) (c.are_clear.ensures.0 c.if-not-are_clear.false) (omega arith) (omega (arith, c.requires.four, low, high))))
