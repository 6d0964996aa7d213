-- The pixels so far are drawn, and the others are as they were.
use Rattle.std.proofs.Common.{◌≡◌, ◌<◌, ◌≤◌, ◌-◌, ℕ, pos, ◌+ℤ◌}
use Rattle.pixel.specs.Rows.{pixel, ArePremultiplied}
use Rattle.recording_check.specs.inner.Sheets.{patched}
use Rattle.recording_check.proofs.missing.draw_missing.Given as goal

abbrev pub invariant-loop-k : goal.invariant-loop-k
invariant-loop-k l = record {
  within : l.k ≤ l.width;
  before : (j : ℕ) → j < l.k → pixel l.row j ≡ patched l.tile l.layer (record { x = l.from.x +ℤ pos j; y = l.from.y }) (pixel l.initial.row j);
  behind : (j : ℕ) → j < l.width → l.k ≤ j → pixel l.row j ≡ pixel l.initial.row j;
  premultiplied : ArePremultiplied l.initial.row → ArePremultiplied l.row;
}

abbrev pub decreases-loop-k : goal.decreases-loop-k
decreases-loop-k l = l.width - l.k
