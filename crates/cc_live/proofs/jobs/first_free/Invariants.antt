-- At each slot before this one a job is out.
use Rattle.std.proofs.Common.{◌≡◌, ◌<◌, ℕ, true, None, is_some, slice_index_or}
use Rattle.cc_live.proofs.jobs.first_free.Given as goal

abbrev pub invariant-loop-slot : goal.invariant-loop-slot
invariant-loop-slot l = (before : ℕ) → before < l.slot → is_some (slice_index_or l.slots before None) ≡ true
