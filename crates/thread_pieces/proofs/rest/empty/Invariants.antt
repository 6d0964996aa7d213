use Rattle.std.proofs.Common.{◌≡◌, take, drop}
use Rattle.rtrb.specs.Ring.{known_items}
use Rattle.thread_pieces.specs.Shots.{all_shown}
use Rattle.thread_pieces.specs.Answers.{Presents}
use Rattle.thread_pieces.proofs.rest.empty.Given as goal

abbrev pub invariant-loop : goal.invariant-loop
invariant-loop g l = record {
  left : known_items l.consumer ≡ drop l.counter (known_items l.fn.consumer);
  step : Presents g.K.Sink l.fn.served l.state l.fn.out l.out (all_shown (take l.counter (known_items l.fn.consumer)));
}
