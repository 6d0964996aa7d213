-- Each row adds what is copied into it.
use Rattle.std.proofs.Common.{ℕ, ◌≡◌, ◌+◌, ◌-◌, arith, refl, ap}
use Rattle.pixel.specs.Rows.{pixel}
use Rattle.pixel.proofs.Areas.{area_step}
use Rattle.pixel.proofs.rows.copy_over_rows.Goals as goal

pub loop-down-preserved : goal.loop-down-preserved
loop-down-preserved c = record {
  pixels =
      area_step c.args.size.width c.args.size.height c.args.at c.loop-down.down c.place_of-place.result c.args.at.w (λ x y below. pixel c.args.row.now (c.args.from + (x - c.args.at.x)))
      (λ j below. pixel c.args.row.now (c.args.from + j)) c.args.surface.now c.loop-down.surface c.copy_run.new.surface c.requires.inside (omega arith)
      refl c.place_of-place.ensures.value c.loop-down.invariant.pixels c.copy_run.ensures
      (λ j below lt. let e : c.args.from + j ≡ c.args.from + (c.args.at.x + j - c.args.at.x) = omega arith in ap (λ (i : ℕ). pixel c.args.row.now i) e);
  premultiplied = λ old. c.copy_run.ensures.premultiplied (c.loop-down.invariant.premultiplied old);
}
