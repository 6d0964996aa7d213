use Rattle.std.proofs.Common.{◌≡◌, ◌≤◌}
use Rattle.byte_io.specs.Pieces.{WriteCause}
use Rattle.thread_pieces.specs.Ring.{SamePresenter, bytes_taken}
use Rattle.thread_pieces.specs.Answers.{Served}
use Rattle.thread_pieces.proofs.ends.Presenter.serve.Given as goal

abbrev pub invariant-loop : goal.invariant-loop
invariant-loop g l = record {
  ring : SamePresenter l.fn.self l.self;
  bytes : Served l.state (g.K.Sink.held l.fn.out) (g.K.Sink.held l.out) (bytes_taken l.fn.self) (bytes_taken l.self);
  faults : g.K.Sink.faults l.fn.out ≤ g.K.Sink.faults l.out;
  refusals : g.K.Sink.refusals l.fn.out ≤ g.K.Sink.refusals l.out;
  cause : WriteCause (g.K.Sink.faults l.fn.out) (g.K.Sink.faults l.out) l.state;
  place : g.K.Sink.place l.out ≡ g.K.Sink.place l.fn.out;
}
