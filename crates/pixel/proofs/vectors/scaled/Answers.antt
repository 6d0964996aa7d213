-- Each byte is faded.
use Rattle.pixel.proofs.FourPixels.{scaled_bytes, scaled_premultiplied}
use Rattle.pixel.proofs.vectors.scaled.Goals as goal

pub returns-clause-bytes : goal.returns-clause-bytes
returns-clause-bytes c =
    scaled_bytes c.args.pixels c.faded.result c.args.opacity c.requires.pixels c.faded.ensures.len c.ranges.opacity.fits c.faded.ensures.lanes

pub returns-clause-premultiplied : goal.returns-clause-premultiplied
returns-clause-premultiplied c =
    scaled_premultiplied c.args.pixels c.faded.result c.args.opacity c.requires.pixels.count c.faded.ensures.len c.faded.ensures.lanes
    c.requires.premultiplied
