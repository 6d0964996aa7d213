-- The rects and the whole hold the damage and the area.
use Rattle.std.specs.Prelude.{◌∷◌, All, vec_len}
use Rattle.viz_scene.specs.Areas.{IsOnScreen}
use Rattle.viz_damage.specs.inner.Areas.{HoldAll}
use Rattle.viz_damage.proofs.areas.add_area.Given as given

abbrev pub invariant-loop-place : given.invariant-loop-place
invariant-loop-place l = record {
  held : HoldAll (l.whole ∷ l.damage.items) (l.fn.area ∷ l.fn.damage.items);
  damage : All IsOnScreen l.damage.items;
  whole : IsOnScreen l.whole;
}

abbrev pub decreases-loop-place : given.decreases-loop-place
decreases-loop-place l = vec_len l.damage
