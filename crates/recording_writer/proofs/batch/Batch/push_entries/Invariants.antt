-- What waits and what the entries left add are all; and those entries are to come.
use Rattle.std.proofs.Common.{◌≡◌, ◌++◌, length, take, drop}
use Rattle.std.specs.Prelude.{reverse}
use Rattle.std.specs.Vec.Iter.{into_iter_items, into_iter_len}
use Rattle.model_history.specs.Recordings.{pieces}
use Rattle.recording_writer.specs.Batches.{held_of}
use Rattle.recording_writer.specs.Scenes.{AllCome}
use Rattle.recording_writer.proofs.batch.Batch.push_entries.Given as goal

abbrev pub invariant-loop-at : goal.invariant-loop-at
invariant-loop-at l = record {
  text : held_of l.self ++ pieces l.core.script (reverse (take l.at l.history.entries)) (drop l.at l.history.entries) ≡ held_of l.fn.self ++ pieces l.core.script (reverse (take l.from l.history.entries)) (drop l.from l.history.entries);
  come : AllCome l.core.script (reverse (take l.at l.history.entries)) (drop l.at l.history.entries) (into_iter_items l.queue);
  count : into_iter_len l.queue ≡ length (into_iter_items l.queue);
}
