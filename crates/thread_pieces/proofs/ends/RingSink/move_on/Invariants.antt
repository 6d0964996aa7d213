use Rattle.std.proofs.Common.{◌≡◌, length}
use Rattle.thread_pieces.specs.Ring.{OnlyMoves}
use Rattle.thread_pieces.proofs.ends.RingSink.move_on.Given as goal

abbrev pub invariant-loop-self : goal.invariant-loop-self
invariant-loop-self l = record {
  moves : OnlyMoves l.fn.self l.self;
  lines : l.self.lines ≡ l.fn.self.lines;
}

abbrev pub decreases-loop-self : goal.decreases-loop-self
decreases-loop-self l = length l.self.kept.items
