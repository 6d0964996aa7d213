-- What is put is the image.
use Rattle.std.proofs.Common.{ℕ, List, subst}
use Rattle.byte_io.specs.Pieces.{PutsAll}
use Rattle.byte_io.proofs.Puts.{puts_piece}
use Rattle.player_uses.proofs.images.put_image.Goals as goal

pub returns-clause-bytes : goal.returns-clause-bytes
returns-clause-bytes g c = subst (λ (w : List ℕ). PutsAll (g.K.Sink.held c.args.out.now) (g.K.Sink.held c.put.new.self) w c.put.result) c.image_in.ensures (puts_piece _ _ _ c.put.result c.put.ensures.bytes)
