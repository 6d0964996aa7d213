use Rattle.std.proofs.Common.{◌≡◌, ◌++◌, take}
use Rattle.thread_pieces.specs.Ring.{SameSink, joined, whole}
use Rattle.thread_pieces.proofs.life.put_each.Given as goal

abbrev pub invariant-loop-piece : goal.invariant-loop-piece
invariant-loop-piece l = record {
  ring : SameSink l.fn.sink l.sink;
  bytes : whole l.sink ≡ whole l.fn.sink ++ joined (take l.piece-index l.pieces);
}
