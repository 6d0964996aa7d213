-- The quads up to the place differ from those before the start within the damage.
use Rattle.std.specs.Prelude.{take, All}
use Rattle.viz_scene.specs.Views.{quads_view}
use Rattle.viz_scene.specs.Areas.{IsOnScreen}
use Rattle.viz_damage.specs.inner.Areas.{HoldAll}
use Rattle.viz_damage.specs.inner.Alike.{DifferWithin}
use Rattle.viz_damage.proofs.lists.add_areas.Given as given

abbrev pub invariant-loop-place : given.invariant-loop-place
invariant-loop-place l = record {
  changes : DifferWithin l.reaches l.damage.items (take l.place (quads_view l.quads)) (take l.start (quads_view l.quads));
  held : HoldAll l.damage.items l.fn.damage.items;
  damage : All IsOnScreen l.damage.items;
}
