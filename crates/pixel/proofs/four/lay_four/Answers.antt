-- The four pixels over those before stand in their place.
use Rattle.std.proofs.Common.{refl, arith, ap, ◌∙◌, ◌*◌}
use Rattle.std.specs.Simd.Lanes.{chunk}
use Rattle.std.proofs.lemmas.Simd.{length-chunk}
use Rattle.pixel.specs.Colours.{blend}
use Rattle.pixel.specs.Rows.{pixel}
use Rattle.pixel.proofs.LaneWise.{loaded}
use Rattle.pixel.proofs.Parts.{pixel_taken, run_premultiplied, laid_pixel}
use Rattle.pixel.proofs.FourPixels.{four_made, laid_premultiplied}
use Rattle.pixel.proofs.four.lay_four.Goals as goal

pub laid-requires-clause-below : goal.laid-requires-clause-below
laid-requires-clause-below c = loaded c.args.surface.now (4 * c.args.k) (omega (arith, c.requires.inside)) c.type_inv.surface

pub returns : goal.returns
returns c =
    let old = chunk (4 * c.args.k) 16 c.args.surface.now in
    four_made c.args.k (λ j below. blend below (pixel c.args.pixels j)) c.args.surface.now c.laid.result c.requires.inside c.laid.ensures.len
    (λ j lt.
    laid_pixel 16 old c.args.pixels c.laid.result c.laid.ensures.lanes j (omega arith)
    ∙ ap (λ below. blend below (pixel c.args.pixels j)) (pixel_taken c.args.k 4 16 c.args.surface.now j lt refl))
    (λ ready.
    laid_premultiplied old c.args.pixels c.laid.result c.requires.bytes.count
    (length-chunk (4 * c.args.k) 16 c.args.surface.now (omega (arith, c.requires.inside))) c.laid.ensures.len c.laid.ensures.lanes
    c.requires.premultiplied (run_premultiplied c.args.k 4 16 c.args.surface.now refl c.requires.inside ready))
