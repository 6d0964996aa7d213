-- Waiting changes nothing that was put.
use Rattle.thread_pieces.specs.Ring.{OnlyMoves}
use Rattle.thread_pieces.proofs.ends.RingSink.wait_until.Given as goal

abbrev pub invariant-loop : goal.invariant-loop
invariant-loop g l = OnlyMoves l.fn.self l.self
