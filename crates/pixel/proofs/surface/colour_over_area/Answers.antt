-- Each row adds what it draws to what was drawn.
use Rattle.std.proofs.Common.{ℕ, arith, subst}
use Rattle.pixel.specs.Colours.{blend}
use Rattle.pixel.specs.Surfaces.{IsPart}
use Rattle.pixel.proofs.Steps.{row_step}
use Rattle.pixel.proofs.surface.colour_over_area.Goals as goal

pub loop-row-preserved : goal.loop-row-preserved
loop-row-preserved c =
    let part = subst (λ (k : ℕ). IsPart k c.args.at.w (λ j below. blend below c.args.colour) c.loop-row.surface c.colour_over_part.new.surface) c.place_of-place.ensures.value c.colour_over_part.ensures in
    record {
      pixels =
          row_step c.args.size.width c.args.size.height c.args.at c.loop-row.row (λ x y below. blend below c.args.colour) c.args.surface.now c.loop-row.surface c.colour_over_part.new.surface
          c.requires.inside (omega arith) c.loop-row.invariant.pixels part;
      premultiplied = λ old. c.colour_over_part.ensures.premultiplied (c.loop-row.invariant.premultiplied old);
    }
