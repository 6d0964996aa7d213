-- The rows of blocks so far are above.
use Rattle.std.specs.Prelude.{◌≡◌, ℕ, ◌/◌, ◌<◌, ◌≤◌, true}
use Rattle.pixel.specs.Surfaces.{holds}
use Rattle.viz_render.specs.inner.Masks.{top}
use Rattle.viz_render.proofs.mask.are_blocks_above.Given as given

abbrev pub invariant-loop-down : given.invariant-loop-down
invariant-loop-down l = record {
  from : l.fn.at.y / 8 ≤ l.down;
  hidden : (x y : ℕ) → holds l.fn.at x y ≡ true → y / 8 < l.down → l.number < top l.tops x y;
}
