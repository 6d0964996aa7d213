use Rattle.thread_pieces.specs.Shots.{all_shown}
use Rattle.thread_pieces.specs.Answers.{Presents}
use Rattle.thread_pieces.proofs.rest.put_kept.Given as goal

abbrev pub invariant-loop-piece : goal.invariant-loop-piece
invariant-loop-piece g l = Presents g.K.Sink l.fn.served l.state l.fn.out l.out (all_shown l.yielded)
