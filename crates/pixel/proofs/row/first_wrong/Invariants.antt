use Rattle.std.specs.Prelude.{ℕ, ◌<◌, ◌≤◌, ◌*◌, slice_index, true, ◌≡◌}
use Rattle.pixel.specs.Colours.{is_colour}
use Rattle.pixel.specs.Rows.{pixel, alpha_place}
use Rattle.pixel.proofs.row.first_wrong.Given as given

abbrev pub invariant-loop-k : given.invariant-loop-k
invariant-loop-k l = record {
  bytes : (i : ℕ) → i < 4 * l.k → slice_index l.row i ≤ slice_index l.row (alpha_place i);
  colours : (j : ℕ) → j < l.k → is_colour (pixel l.row j) ≡ true;
}
