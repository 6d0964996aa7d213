-- Each row adds what it draws to what was drawn.
use Rattle.std.proofs.Common.{ℕ, ◌≡◌, ◌+◌, ◌-◌, arith, sym, ap}
use Rattle.pixel.specs.Rows.{pixel}
use Rattle.pixel.proofs.Areas.{area_step}
use Rattle.pixel.proofs.rows.put_four_in_rows.Goals as goal

pub loop-row-preserved : goal.loop-row-preserved
loop-row-preserved c = record {
  pixels =
      area_step c.args.size.width c.args.size.height c.args.at c.loop-row.row c.place_of-place.result 4 (λ x y below. pixel c.args.pixels (x - c.args.at.x))
      (λ j below. pixel c.args.pixels j) c.args.surface.now c.loop-row.surface c.put_four.new.surface c.requires.inside (omega arith)
      (sym c.requires.four) c.place_of-place.ensures.value c.loop-row.invariant.pixels c.put_four.ensures
      (λ j below lt. let e : j ≡ c.args.at.x + j - c.args.at.x = omega arith in ap (λ (i : ℕ). pixel c.args.pixels i) e);
  premultiplied = λ old. c.put_four.ensures.premultiplied (c.loop-row.invariant.premultiplied old);
}
