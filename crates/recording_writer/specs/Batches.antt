-- The bytes of a batch.
use Rattle.std.specs.Prelude.{ℕ, List, ◌++◌}
use Rattle.thread_pieces.specs.Shots.{all_shown}
use Rattle.recording_writer.specs.declared.batch.Batch.{Batch}

-- the bytes of a batch: its pieces, and the lines after them
abbrev pub held_of : Batch → List ℕ
held_of b = all_shown b.shots.items ++ b.lines.items
