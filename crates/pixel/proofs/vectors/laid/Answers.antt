-- The sum of both fits a byte.
use Rattle.std.proofs.Common.{◌∙◌, sym}
use Rattle.std.proofs.lemmas.Simd.{length-zip2}
use Rattle.pixel.proofs.LaneWise.{sum_8}
use Rattle.pixel.proofs.FourPixels.{laid_lane}
use Rattle.pixel.proofs.vectors.laid.Goals as goal

pub returns-clause-lanes : goal.returns-clause-lanes
returns-clause-lanes c =
    laid_lane c.args.below c.args.over c.shown.result c.requires.over c.requires.premultiplied c.shown.ensures.len c.shown.ensures.lanes
    c.shown.ensures.low

pub returns-clause-len : goal.returns-clause-len
returns-clause-len c =
    length-zip2 sum_8 c.args.over c.shown.result (c.requires.over.count ∙ sym c.shown.ensures.len) ∙ c.requires.over.count
