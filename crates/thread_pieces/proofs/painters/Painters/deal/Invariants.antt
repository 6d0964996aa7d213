-- What is dealt is what the pieces show that were taken.
use Rattle.std.proofs.Common.{◌≡◌}
use Rattle.thread_pieces.specs.Shots.{all_due, all_shown}
use Rattle.thread_pieces.proofs.painters.Painters.deal.Given as goal

abbrev pub invariant-loop-shot : goal.invariant-loop-shot
invariant-loop-shot g l = record {
  due : all_due l.self.hands.items ≡ all_shown l.yielded;
  most : l.self.most ≡ l.fn.self.most;
}
