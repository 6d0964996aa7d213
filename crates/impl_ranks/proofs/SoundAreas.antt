-- Areas near the viewport are sound, also where they are moved.
use Rattle.std.proofs.Common.{arith}
use Rattle.std.proofs.lemmas.Int.{ints}
use Rattle.tile_priority.specs.declared.tile.Borders.{Borders}
use Rattle.impl_ranks.specs.Areas.{area_near}
use Rattle.impl_ranks.specs.inner.Lists.{IsArea, IsNarrow}

-- the area near a narrow viewport is near the screen
pub area_small : (b : Borders) → IsNarrow b → IsArea (area_near b)
area_small b n = record {
  left = omega (arith, ints, n.x, n.border);
  right = omega (arith, ints, n.x);
  upper = omega (arith, ints, n.y, n.border);
  lower = omega (arith, ints, n.y);
  w_low = omega (arith, ints, n.w_low);
  w_high = omega (arith, ints, n.w_high, n.border);
  h_low = omega (arith, ints, n.h_low);
  h_high = omega (arith, ints, n.h_high, n.border);
}
