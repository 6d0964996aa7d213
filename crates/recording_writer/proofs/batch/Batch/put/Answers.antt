-- The pieces were put, and then the lines after them; or a prefix of both.
use Rattle.std.proofs.Common.{◌≡◌, ℕ, List, ◌++◌, ap, sym, ◌∙◌, subst}
use Rattle.byte_io.specs.Pieces.{GainsPrefix}
use Rattle.byte_io.proofs.Puts.{puts_piece}
use Rattle.thread_pieces.proofs.Gains.{gains_longer}
use Rattle.thread_pieces.specs.Shots.{all_shown}
use Rattle.recording_writer.specs.Batches.{held_of}
use Rattle.recording_writer.proofs.Gains.{written_after}
use Rattle.recording_writer.proofs.batch.Batch.put.Goals as goal

pub returns-in-Err-clause-bytes : goal.returns-in-Err-clause-bytes
returns-in-Err-clause-bytes g c =
    subst (λ (w : List ℕ). GainsPrefix (g.K.Sink.held c.args.out.now) (g.K.Sink.held c.put.new.out) w) c.take_shots-shots.ensures.all
    (gains_longer _ _ (all_shown c.take_shots-shots.result.items) (held_of c.take_shots-shots.new.self) c.in-Err.ensures.bytes)

pub returns-clause-bytes : goal.returns-clause-bytes
returns-clause-bytes g c =
    let shots : List ℕ = all_shown c.take_shots-shots.result.items in
    let all : shots ++ c.as_slice.result.now ≡ held_of c.args.self.now =
    ap (λ (w : List ℕ). shots ++ w) (c.as_slice.ensures.value ∙ sym c.take_shots-shots.ensures.lines) ∙ c.take_shots-shots.ensures.all in
    written_after c.put-2.result _ _ _ shots c.as_slice.result.now (held_of c.args.self.now) c.in_default.ensures.bytes (puts_piece _ _ _ c.put-2.result c.put-2.ensures.bytes) all
