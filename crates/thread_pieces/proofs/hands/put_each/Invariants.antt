-- The sink gained what the hands so far made.
use Rattle.std.proofs.Common.{◌≡◌, ◌≤◌, take}
use Rattle.std.specs.Io.KnownBytes.{Appends}
use Rattle.thread_pieces.specs.Shots.{all_made}
use Rattle.thread_pieces.proofs.hands.put_each.Given as goal

abbrev pub invariant-loop-hand : goal.invariant-loop-hand
invariant-loop-hand g l = record {
  gained : Appends (g.K.Sink.held l.fn.out) (g.K.Sink.held l.out) (all_made g.P.ScenePainter.rows (take l.hand-index l.hands));
  grows : g.K.Sink.faults l.fn.out ≤ g.K.Sink.faults l.out;
  refusals : g.K.Sink.refusals l.fn.out ≤ g.K.Sink.refusals l.out;
  place : g.K.Sink.place l.out ≡ g.K.Sink.place l.fn.out;
}
