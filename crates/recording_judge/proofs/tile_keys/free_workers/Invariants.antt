-- The given number of workers hold nothing.
use Rattle.std.proofs.Common.{◌≡◌, ℕ, length, None}
use Rattle.std.specs.Prelude.{slice_index_or}
use Rattle.recording_judge.proofs.tile_keys.free_workers.Given as goal

abbrev pub invariant-loop-made : goal.invariant-loop-made
invariant-loop-made l = (length l.held.items ≡ l._made) × ((w : ℕ) → slice_index_or l.held.items w None ≡ None)
