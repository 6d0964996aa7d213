-- The quads before the two places differ within the damage.
use Rattle.std.specs.Prelude.{◌≤◌, ◌+◌, ◌-◌, length, take, All}
use Rattle.viz_scene.specs.Views.{quads_view}
use Rattle.viz_scene.specs.Areas.{IsOnScreen}
use Rattle.viz_damage.specs.inner.Areas.{HoldAll}
use Rattle.viz_damage.specs.inner.Alike.{DifferWithin}
use Rattle.viz_damage.proofs.lists.add_front_changes.Given as given

abbrev pub invariant-loop-i : given.invariant-loop-i
invariant-loop-i l = record {
  old : l.i ≤ length l.old;
  new : l.j ≤ length l.new;
  changes : DifferWithin l.reaches l.damage.items (take l.i (quads_view l.old)) (take l.j (quads_view l.new));
  held : HoldAll l.damage.items l.fn.damage.items;
  damage : All IsOnScreen l.damage.items;
}

abbrev pub decreases-loop-i : given.decreases-loop-i
decreases-loop-i l = (length l.old - l.i) + (length l.new - l.j)
