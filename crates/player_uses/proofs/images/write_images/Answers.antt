-- What was put are the images, or a prefix of them.
use Rattle.std.proofs.Common.{rules}
use Rattle.byte_io.specs.Pieces.{GainsPrefix}
use Rattle.player_uses.specs.inner.Recordings.{images_of}
use Rattle.player_uses.proofs.Outputs.{fault_cause, fault_images}
use Rattle.player_uses.proofs.images.write_images.Goals as goal

pub returns-in-Err-clause-images : goal.returns-in-Err-clause-images
returns-in-Err-clause-images g c =
    let front : GainsPrefix (g.K.Sink.held c.args.out.now) (g.K.Sink.held c.put_images.new.out) (images_of c.args.images.now) = search rules in
    fault_images _ _ (images_of c.args.images.now) c.in-Err.fault _ c.from.ensures front

pub returns-in-Err-clause-cause : goal.returns-in-Err-clause-cause
returns-in-Err-clause-cause g c = fault_cause (Unit {0}) _ _ c.in-Err.fault _ c.from.ensures c.in-Err.ensures.cause
