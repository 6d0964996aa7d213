-- The pixels so far have alpha 255.
use Rattle.std.specs.Prelude.{◌≡◌, ℕ, ◌<◌, ◌≤◌, ◌-◌}
use Rattle.pixel.specs.Rows.{pixel}
use Rattle.viz_occlusion.proofs.opaque.opaque_until.Given as given

abbrev pub invariant-loop-k : given.invariant-loop-k
invariant-loop-k l = record {
  low : l.left ≤ l.k;
  high : l.k ≤ l.right;
  opaque : (j : ℕ) → l.left ≤ j → j < l.k → (pixel l.row j).a ≡ 255;
}

abbrev pub decreases-loop-k : given.decreases-loop-k
decreases-loop-k l = l.right - l.k
