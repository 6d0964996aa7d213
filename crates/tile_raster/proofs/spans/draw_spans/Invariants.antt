use Rattle.std.proofs.Common.{ℕ, ◌≡◌, ◌<◌, ◌≤◌, ◌+◌, ◌-◌, ◌*◌}
use Rattle.pixel.specs.Rows.{pixel, ArePremultiplied}
use Rattle.tile_raster.specs.inner.Patches.{spans_show}
use Rattle.tile_raster.proofs.spans.draw_spans.Given as given

-- the row is drawn up to column x, and no other row has changed
abbrev pub invariant-loop-x : given.invariant-loop-x
invariant-loop-x l = record {
  inside : l.x ≤ l.size.width;
  drawn : (z : ℕ) → z < l.x → pixel l.bytes (l.place * l.size.width + z) ≡ spans_show l.spans z;
  others : (z y : ℕ) → z < l.size.width → y < l.size.height → (y ≡ l.place → ⊥) → pixel l.bytes (y * l.size.width + z) ≡ pixel l.initial.bytes (y * l.size.width + z);
  premultiplied : ArePremultiplied l.initial.bytes → ArePremultiplied l.bytes;
}

abbrev pub decreases-loop-x : given.decreases-loop-x
decreases-loop-x l = l.size.width - l.x
