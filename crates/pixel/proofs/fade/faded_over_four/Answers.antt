-- The four pixels are those of the pass, faded.
use Rattle.std.proofs.Common.{◌+◌, ap, ◌∙◌}
use Rattle.pixel.specs.Colours.{Parts, blend, scaled}
use Rattle.pixel.specs.Rows.{pixel}
use Rattle.pixel.proofs.Parts.{part_like}
use Rattle.pixel.proofs.FourPixels.{scaled_pixel}
use Rattle.pixel.proofs.fade.faded_over_four.Goals as goal

pub returns : goal.returns
returns c =
    part_like c.args.k 4 (λ j below. blend below (pixel c.scaled.result j)) (λ j below. blend below (scaled (pixel c.args.pass.now (c.args.k + j)) c.args.opacity))
    c.args.surface.now c.lay_four.new.surface c.lay_four.ensures
    (λ j below lt.
    ap (blend below)
    (scaled_pixel c.four_at.result c.scaled.result c.args.opacity c.scaled.ensures.lanes j lt
    ∙ ap (λ (p : Parts). scaled p c.args.opacity) (c.four_at.ensures.pixels j lt)))
