-- Interrupted calls took nothing and are no faults.
use Rattle.std.proofs.Common.{◌≡◌, false}
use Rattle.std.specs.Io.KnownBytes.{Keeps}
use Rattle.byte_io.proofs.std_source.StdSourceSource.read.Given as goal

abbrev pub invariant-loop : goal.invariant-loop
invariant-loop g l =
    Keeps (g.R.Read.remaining l.fn.self.reader) (g.R.Read.remaining l.self.reader)
    × (l.self.faults ≡ l.fn.self.faults)
    × (l.self.failed ≡ false)
    × (l.self.ended ≡ false)
    × (l.self.given.items ≡ l.fn.self.given.items)
