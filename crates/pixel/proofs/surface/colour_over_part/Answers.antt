-- The run grows by the pixels that the colour is laid over.
use Rattle.std.proofs.Common.{ap, arith, refl}
use Rattle.pixel.specs.Colours.{blend}
use Rattle.pixel.specs.Rows.{pixel}
use Rattle.pixel.proofs.Parts.{part_more}
use Rattle.pixel.proofs.surface.colour_over_part.Goals as goal

pub fours-preserved : goal.fours-preserved
fours-preserved c = record {
  inside = omega (arith, c.fours-test.true);
  part =
      part_more c.args.k c.fours.done 4 (λ j below. blend below c.args.colour) (λ j below. blend below (pixel c.four_of-pixels.result j)) c.args.surface.now
      c.fours.surface c.lay_four.new.surface c.fours.invariant.part c.lay_four.ensures
      (λ j below lt. ap (blend below) (c.four_of-pixels.ensures.pixels j lt));
}

pub ones-preserved : goal.ones-preserved
ones-preserved c = record {
  inside = omega (arith, c.ones-test.true);
  part =
      part_more c.args.k c.ones.done 1 (λ j below. blend below c.args.colour) (λ j below. blend below c.args.colour) c.args.surface.now
      c.ones.surface c.lay_one.new.surface c.ones.invariant.part c.lay_one.ensures (λ j below lt. refl);
}
