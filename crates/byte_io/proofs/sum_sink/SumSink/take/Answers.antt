-- The count and the sum are those of all bytes.
use Rattle.std.proofs.Common.{◌∙◌}
use Rattle.byte_io.proofs.Pieces.{counts_more}
use Rattle.byte_io.proofs.sum_sink.SumSink.take.Goals as goal

pub invariant_of-self : goal.invariant_of-self
invariant_of-self c =
    let counts = counts_more _ _ c.args.piece.now c.args.self.now.bytes c.args.self.now.sum c.args.self.now.counted c.args.self.now.summed c.with_all-self.ensures in
    record { counted = c.requires ∙ counts.0; summed = c.sum_behind-self.ensures ∙ counts.1 }
