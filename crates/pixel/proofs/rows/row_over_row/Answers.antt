-- The only row of the area.
use Rattle.std.proofs.Common.{ℕ, ◌≡◌, ◌+◌, ◌-◌, ap, arith}
use Rattle.pixel.specs.Colours.{blend}
use Rattle.pixel.specs.Rows.{pixel}
use Rattle.pixel.proofs.Areas.{one_row}
use Rattle.pixel.proofs.rows.row_over_row.Goals as goal

pub returns-clause-pixels : goal.returns-clause-pixels
returns-clause-pixels c =
    one_row c.args.size.width c.args.size.height c.args.at c.place_of-place.result (λ x y below. blend below (pixel c.args.row.now (x - c.args.at.x + c.args.from)))
    (λ j below. blend below (pixel c.args.row.now (c.args.from + j))) c.args.surface.now c.row_over_run.new.surface c.requires.inside c.requires.one
    c.place_of-place.ensures.value c.row_over_run.ensures
    (λ j below lt.
    let e : c.args.from + j ≡ c.args.at.x + j - c.args.at.x + c.args.from = omega arith in
    ap (λ (k : ℕ). blend below (pixel c.args.row.now k)) e)
