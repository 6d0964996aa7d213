use Rattle.std.proofs.Common.{◌≡◌, ◌≤◌, deque_capacity}
use Rattle.tile_queue.specs.inner.Listing.{up_to}
use Rattle.tile_queue.proofs.listed.first_slots.Given as goal

abbrev pub invariant-loop-slot : goal.invariant-loop-slot
invariant-loop-slot l = (l.order.items ≡ up_to l.slot) × (l.room ≤ deque_capacity l.order)
