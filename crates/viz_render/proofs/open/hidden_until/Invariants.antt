-- The numbers so far are above.
use Rattle.std.specs.Prelude.{ℕ, ◌<◌, ◌≤◌, ◌-◌, slice_index}
use Rattle.viz_render.proofs.open.hidden_until.Given as given

abbrev pub invariant-loop-place : given.invariant-loop-place
invariant-loop-place l = record {
  low : l.first ≤ l.place;
  high : l.place ≤ l.end;
  hidden : (i : ℕ) → l.first ≤ i → i < l.place → l.number < slice_index l.tops i;
}

abbrev pub decreases-loop-place : given.decreases-loop-place
decreases-loop-place l = l.end - l.place
