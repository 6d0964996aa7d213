-- What was written and what is left are the piece.
use Rattle.std.proofs.Common.{◌≡◌, ℕ, List, ◌++◌}
use Rattle.std.specs.Io.KnownBytes.{Appends}
use Rattle.byte_io.proofs.std_sink.StdSinkSink.put.Given as goal

abbrev pub invariant-loop : goal.invariant-loop
invariant-loop g l =
    (done : List ℕ) × (done ++ l.rest ≡ l.piece)
    × Appends (g.W.Write.contents l.fn.self.writer) (g.W.Write.contents l.self.writer) done
    × (l.self.taken.items ≡ l.fn.self.taken.items ++ done)
    × (l.self.faults ≡ l.fn.self.faults)
