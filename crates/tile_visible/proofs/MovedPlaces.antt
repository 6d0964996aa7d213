-- The rects of places, moved by a translation, are sound.
use Rattle.std.proofs.Common.{ℕ, ◌≡◌, ◌*◌, ◌<◌, ◌≤◌, nat_lt, true, arith, sym, ◌∙◌}
use Rattle.std.proofs.lemmas.Int.{ints}
use Rattle.std.proofs.lemmas.Bool.Decides.{nat_tests}
use Rattle.geom.specs.declared.rect.Point.{Point}
use Rattle.geom.specs.declared.tile.Place.{Place}
use Rattle.geom.specs.Covers.{IsSound}
use Rattle.geom.specs.Gaps.{shifted}
use Rattle.geom.specs.Grids.{tiles, has, rect_of_place}
use Rattle.geom.specs.Sides.{Sides, IsLayerSide, IsGrid}
use Rattle.geom.proofs.Cuts.{tiles_is}
use Rattle.geom.proofs.Spans.{both}
use Rattle.page_properties.specs.Placement.{IsWithin}

-- a tile of a side starts at most 16384 pixels from its start
start_near : (side tile k : ℕ) → IsLayerSide side → IsLayerSide tile → nat_lt k (tiles side tile) ≡ true → k * tile ≤ 16384
start_near side tile k s t h =
    let below : nat_lt (k * tile) side ≡ true = sym (tiles_is side tile k t.low) ∙ h in
    let f : k * tile < side = grind (arith, nat_tests) in omega (arith, f, s.high)

pub moved_sound : (g : Sides) (q : Place) (by : Point) → IsGrid g → has g q ≡ true → IsWithin (256 * 1114112) by → IsSound (rect_of_place g q) → IsSound (shifted (rect_of_place g q) by)
moved_sound g q by is there near sound =
    let x = start_near g.w g.tile q.x is.wide is.cut (both (nat_lt q.x (tiles g.w g.tile)) (nat_lt q.y (tiles g.h g.tile)) there).0 in
    let y = start_near g.h g.tile q.y is.tall is.cut (both (nat_lt q.x (tiles g.w g.tile)) (nat_lt q.y (tiles g.h g.tile)) there).1 in
    record {
      across = record { from_low = omega (arith, ints, near.left); from_high = omega (arith, ints, near.right, x); length_low = sound.across.length_low; length_high = sound.across.length_high };
      down = record { from_low = omega (arith, ints, near.upper); from_high = omega (arith, ints, near.lower, y); length_low = sound.down.length_low; length_high = sound.down.length_high };
    }
