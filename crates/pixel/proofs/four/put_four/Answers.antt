-- The four pixels stand in place of those before.
use Rattle.std.proofs.Common.{refl}
use Rattle.pixel.specs.Rows.{pixel}
use Rattle.pixel.proofs.FourPixels.{four_made}
use Rattle.pixel.proofs.four.put_four.Goals as goal

pub returns : goal.returns
returns c =
    four_made c.args.k (λ j below. pixel c.args.pixels j) c.args.surface.now c.args.pixels c.requires.inside c.requires.bytes.count (λ j lt. refl)
    (λ _. c.requires.premultiplied)
