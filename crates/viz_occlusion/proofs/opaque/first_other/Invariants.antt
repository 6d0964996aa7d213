-- The pixels so far have alpha 255.
use Rattle.std.specs.Prelude.{◌≡◌, ℕ, ◌<◌, ◌≤◌}
use Rattle.pixel.specs.Rows.{pixel}
use Rattle.viz_occlusion.proofs.opaque.first_other.Given as given

abbrev pub invariant-loop-k : given.invariant-loop-k
invariant-loop-k l = record { from : l.left ≤ l.k; opaque : (j : ℕ) → l.left ≤ j → j < l.k → (pixel l.row j).a ≡ 255 }
