-- What is made is what the pieces show that were taken.
use Rattle.std.proofs.Common.{◌≡◌}
use Rattle.thread_pieces.specs.Shots.{all_shown, made_of}
use Rattle.thread_pieces.proofs.hands.Hand.work.Given as goal

abbrev pub invariant-loop-shot : goal.invariant-loop-shot
invariant-loop-shot g l = made_of g.P.ScenePainter.rows l.self ≡ all_shown l.yielded
