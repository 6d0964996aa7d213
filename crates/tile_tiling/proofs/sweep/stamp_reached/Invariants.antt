-- The columns so far are written, and it is known how far the runs among them reach.
use Rattle.std.proofs.Common.{◌≡◌, ℕ, Bool, nat_eq, nat_lt, ◌&&◌, length}
use Rattle.tile_tiling.specs.inner.Reach.{Reach, IsFarthest}
use Rattle.tile_tiling.specs.inner.Writes.{WritesCells}
use Rattle.tile_tiling.proofs.sweep.stamp_reached.Given as goal

abbrev pub invariant-loop-x : goal.invariant-loop-x
invariant-loop-x l = record {
  far : IsFarthest l.reach l.x l.far;
  size : length l.stamps.items ≡ length l.fn.stamps.items;
  writes : (test : ℕ → Bool) → Reach l.reach l.wide test → WritesCells l.wide l.fn.stamps.items l.stamps.items (λ x r. nat_eq r l.fn.y && (nat_lt x l.x && test x)) l.stamp;
}
