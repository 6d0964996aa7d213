-- What was put, and the pieces that are left, are all pieces.
use Rattle.std.proofs.Common.{◌≡◌, ℕ, ◌≤◌, List, ◌++◌, length}
use Rattle.std.specs.Io.KnownBytes.{Appends}
use Rattle.std.specs.Vec.Iter.{into_iter_items, into_iter_len}
use Rattle.thread_pieces.specs.Shots.{all_shown, due_of}
use Rattle.thread_pieces.proofs.hands.Hand.put_due.Given as goal

abbrev pub invariant-loop-shot : goal.invariant-loop-shot
invariant-loop-shot g l = record {
  part : (gained : List ℕ) × (gained ++ all_shown (into_iter_items l.queue) ≡ due_of l.fn.self) × Appends (g.K.Sink.held l.fn.out) (g.K.Sink.held l.out) gained;
  count : into_iter_len l.queue ≡ length (into_iter_items l.queue);
  grows : g.K.Sink.faults l.fn.out ≤ g.K.Sink.faults l.out;
  refusals : g.K.Sink.refusals l.fn.out ≤ g.K.Sink.refusals l.out;
  place : g.K.Sink.place l.out ≡ g.K.Sink.place l.fn.out;
}

abbrev pub decreases-loop-shot : goal.decreases-loop-shot
decreases-loop-shot g l = into_iter_len l.queue
