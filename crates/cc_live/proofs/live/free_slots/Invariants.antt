-- The given number of slots were made, and at none a job is out.
use Rattle.std.proofs.Common.{◌≡◌, ℕ, length, None, slice_index_or}
use Rattle.cc_live.proofs.live.free_slots.Given as goal

abbrev pub invariant-loop-made : goal.invariant-loop-made
invariant-loop-made l = (length l.slots.items ≡ l._made) × ((w : ℕ) → slice_index_or l.slots.items w None ≡ None)
