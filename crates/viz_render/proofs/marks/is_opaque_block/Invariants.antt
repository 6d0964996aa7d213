-- The rows so far are opaque.
use Rattle.std.specs.Prelude.{◌≡◌, ℕ, ◌+◌, ◌-◌, ◌*◌, ◌/◌, ◌<◌, ◌≤◌}
use Rattle.viz_render.specs.inner.Drawing.{part_pixel}
use Rattle.viz_render.specs.inner.Masks.{HidesIn}
use Rattle.viz_render.proofs.marks.is_opaque_block.Given as given

abbrev pub invariant-loop-done : given.invariant-loop-done
invariant-loop-done l = record {
  few : l.done ≤ 8;
  opaque : (x y : ℕ) → x / 16 ≡ l.block → 8 * l.down ≤ y → y < 8 * l.down + l.done → HidesIn l.part.at (part_pixel l.image l.part) x y;
}

abbrev pub decreases-loop-done : given.decreases-loop-done
decreases-loop-done l = 8 - l.done
