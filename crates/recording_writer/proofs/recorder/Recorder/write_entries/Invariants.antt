-- What was put, what is held back and what the entries left add are all; and those entries are to come.
use Rattle.std.proofs.Common.{◌≡◌, ◌≤◌, ◌++◌, length, take, drop}
use Rattle.std.specs.Prelude.{reverse}
use Rattle.std.specs.Vec.Iter.{into_iter_items, into_iter_len}
use Rattle.model_history.specs.Recordings.{pieces}
use Rattle.recording_writer.specs.Parts.{Half}
use Rattle.recording_writer.specs.Repeats.{Keeps}
use Rattle.recording_writer.specs.Scenes.{AllCome}
use Rattle.recording_writer.proofs.recorder.Recorder.write_entries.Given as goal

abbrev pub invariant-loop-at : goal.invariant-loop-at
invariant-loop-at g l = record {
  part : Half (g.K.Sink.held l.fn.out) (g.K.Sink.held l.out) (l.fn.self.lines.items ++ pieces l.core.script (reverse (take l.from l.history.entries)) (drop l.from l.history.entries))
      (l.self.lines.items ++ pieces l.core.script (reverse (take l.at l.history.entries)) (drop l.at l.history.entries));
  keeps : Keeps l.core.script (reverse (take l.at l.history.entries)) l.history.entries l.self.last;
  come : AllCome l.core.script (reverse (take l.at l.history.entries)) (drop l.at l.history.entries) (into_iter_items l.queue);
  count : into_iter_len l.queue ≡ length (into_iter_items l.queue);
  grows : g.K.Sink.faults l.fn.out ≤ g.K.Sink.faults l.out;
}
