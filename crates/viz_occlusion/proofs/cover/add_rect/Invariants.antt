-- The list and the whole cover what the list and the rect covered.
use Rattle.std.specs.Prelude.{◌≡◌, ℤ, ◌||◌, All, vec_len}
use Rattle.geom.specs.Covers.{covers}
use Rattle.region.specs.Points.{covered}
use Rattle.viz_scene.specs.Areas.{IsOnScreen}
use Rattle.viz_occlusion.proofs.cover.add_rect.Given as given

abbrev pub invariant-loop-joint : given.invariant-loop-joint
invariant-loop-joint l = record {
  points : (x y : ℤ) → (covered l.cover.items x y || covers l.whole x y) ≡ (covered l.fn.cover.items x y || covers l.fn.rect x y);
  cover : All IsOnScreen l.cover.items;
  whole : IsOnScreen l.whole;
}

abbrev pub decreases-loop-joint : given.decreases-loop-joint
decreases-loop-joint l = vec_len l.cover
