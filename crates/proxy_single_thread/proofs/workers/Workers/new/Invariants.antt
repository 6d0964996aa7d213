-- The given number of workers were made, and none holds a job.
use Rattle.std.proofs.Common.{◌≡◌, ℕ, length, None}
use Rattle.std.specs.Prelude.{slice_index_or}
use Rattle.proxy_single_thread.proofs.workers.Workers.new.Given as goal

abbrev pub invariant-loop-made : goal.invariant-loop-made
invariant-loop-made l = (length l.jobs.items ≡ l._made) × ((w : ℕ) → slice_index_or l.jobs.items w None ≡ None)
