-- The pixels so far are opaque.
use Rattle.std.specs.Prelude.{◌≡◌, ℕ, ◌+◌, ◌-◌, ◌<◌, ◌≤◌}
use Rattle.pixel.specs.Colours.{Parts, blend}
use Rattle.pixel.specs.Rows.{pixel}
use Rattle.pixel.proofs.sixteen.opaque_run.Given as given

abbrev pub invariant-loop-run : given.invariant-loop-run
invariant-loop-run l = record {
  most : l.run ≤ l.most;
  opaque : (j : ℕ) → j < l.run → (below : Parts) → pixel l.row (l.k + j) ≡ blend below (pixel l.row (l.k + j));
}

abbrev pub decreases-loop-run : given.decreases-loop-run
decreases-loop-run l = l.most - l.run
