-- None of the numbers so far exceeds it.
use Rattle.std.specs.Prelude.{ℕ, ◌<◌, ◌≤◌, slice_index}
use Rattle.viz_render.proofs.mask.highest_of.Given as given

abbrev pub invariant-loop-top : given.invariant-loop-top
invariant-loop-top l = (i : ℕ) → i < l.top-index → slice_index l.tops i ≤ l.highest
