-- What is put is the line of the outcome.
use Rattle.std.proofs.Common.{ℕ, List, subst}
use Rattle.byte_io.specs.Pieces.{PutsAll}
use Rattle.player_uses.proofs.notes.put_line.Goals as goal

pub returns-clause-bytes : goal.returns-clause-bytes
returns-clause-bytes g c =
    subst (λ (whole : List ℕ). PutsAll (g.E.Sink.held c.args.notes.now) (g.E.Sink.held c.put_fragments.new.out) whole c.put_fragments.result) c.line-fragments.ensures c.put_fragments.ensures.bytes
