-- The pixels so far grow by those that are faded.
use Rattle.std.proofs.Common.{◌≡◌, ◌+◌, ap, ◌∙◌, arith, refl}
use Rattle.pixel.specs.Colours.{Parts, blend, scaled}
use Rattle.pixel.specs.Rows.{pixel}
use Rattle.pixel.proofs.Areas.{part_more_front, part_whole}
use Rattle.pixel.proofs.fade.faded_over.Goals as goal

pub sixteens-preserved : goal.sixteens-preserved
sixteens-preserved c = record {
  inside = omega (arith, c.sixteens-test.true);
  part =
      part_more_front c.sixteens.done 16 (λ j below. blend below (scaled (pixel c.args.pass.now j) c.args.opacity)) (λ j below. blend below (scaled (pixel c.args.pass.now (c.sixteens.done + j)) c.args.opacity)) c.args.surface.now c.sixteens.surface
      c.faded_over_sixteen.new.surface c.sixteens.invariant.part c.faded_over_sixteen.ensures (λ j below lt. refl);
}

pub fours-preserved : goal.fours-preserved
fours-preserved c = record {
  inside = omega (arith, c.fours-test.true);
  part =
      part_more_front c.fours.done 4 (λ j below. blend below (scaled (pixel c.args.pass.now j) c.args.opacity)) (λ j below. blend below (scaled (pixel c.args.pass.now (c.fours.done + j)) c.args.opacity)) c.args.surface.now c.fours.surface
      c.faded_over_four.new.surface c.fours.invariant.part c.faded_over_four.ensures (λ j below lt. refl);
}

pub ones-preserved : goal.ones-preserved
ones-preserved c = record {
  inside = omega (arith, c.ones-test.true);
  part =
      part_more_front c.ones.done 1 (λ j below. blend below (scaled (pixel c.args.pass.now j) c.args.opacity)) (λ j below. blend below c.scale.result) c.args.surface.now c.ones.surface
      c.lay_one.new.surface c.ones.invariant.part c.lay_one.ensures
      (λ j below lt.
      let e : c.ones.done ≡ c.ones.done + j = omega arith in
      ap (blend below) (c.scale.ensures.value ∙ ap (λ (p : Parts). scaled p c.args.opacity) (c.colour_at.ensures ∙ ap (pixel c.args.pass.now) e)));
}

pub returns-clause-pixels : goal.returns-clause-pixels
returns-clause-pixels c = λ k le.
    part_whole c.ones.done (λ j below. blend below (scaled (pixel c.args.pass.now j) c.args.opacity)) c.args.surface.now c.ones.surface c.ones.invariant.part k
    (omega (arith, le, c.ones-test.false))
