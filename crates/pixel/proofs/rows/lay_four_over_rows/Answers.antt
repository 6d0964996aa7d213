-- Each row adds what it draws to what was drawn.
use Rattle.std.proofs.Common.{ℕ, ◌≡◌, ◌+◌, ◌-◌, arith, sym, ap}
use Rattle.pixel.specs.Colours.{blend}
use Rattle.pixel.specs.Rows.{pixel}
use Rattle.pixel.proofs.Areas.{area_step}
use Rattle.pixel.proofs.rows.lay_four_over_rows.Goals as goal

pub loop-row-preserved : goal.loop-row-preserved
loop-row-preserved c = record {
  pixels =
      area_step c.args.size.width c.args.size.height c.args.at c.loop-row.row c.place_of-place.result 4 (λ x y below. blend below (pixel c.args.pixels (x - c.args.at.x)))
      (λ j below. blend below (pixel c.args.pixels j)) c.args.surface.now c.loop-row.surface c.lay_four.new.surface c.requires.inside (omega arith)
      (sym c.requires.four) c.place_of-place.ensures.value c.loop-row.invariant.pixels c.lay_four.ensures
      (λ j below lt. let e : j ≡ c.args.at.x + j - c.args.at.x = omega arith in ap (λ (i : ℕ). blend below (pixel c.args.pixels i)) e);
  premultiplied = λ old. c.lay_four.ensures.premultiplied (c.loop-row.invariant.premultiplied old);
}
