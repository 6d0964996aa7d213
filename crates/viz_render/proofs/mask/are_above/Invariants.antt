-- The numbers so far are above, unless one was found that is not.
use Rattle.std.specs.Prelude.{ℕ, ◌<◌, ◌≤◌, slice_index, IsTrue}
use Rattle.viz_render.proofs.mask.are_above.Given as given

abbrev pub invariant-loop-place : given.invariant-loop-place
invariant-loop-place l = IsTrue l.above → (i : ℕ) → l.first ≤ i → i < l.place → l.number < slice_index l.tops i
