-- The rows before the next one are alike outside the damage.
use Rattle.std.specs.Prelude.{◌≤◌, ◌-◌, pos, ◌+ℤ◌, All}
use Rattle.viz_scene.specs.Areas.{IsOnScreen}
use Rattle.viz_damage.specs.inner.Areas.{HoldAll}
use Rattle.viz_damage.specs.inner.Moved.{AreRowsAlike}
use Rattle.viz_damage.proofs.moved.add_bands.Given as given

abbrev pub invariant-loop-done : given.invariant-loop-done
invariant-loop-done l = record {
  inside : l.done ≤ l.shared.count;
  alike : AreRowsAlike l.damage.items l.image l.old.at l.old.from l.fn.new.at l.fn.new.from l.shared.top (l.shared.top +ℤ pos l.done);
  held : HoldAll l.damage.items l.fn.damage.items;
  damage : All IsOnScreen l.damage.items;
}

abbrev pub decreases-loop-done : given.decreases-loop-done
decreases-loop-done l = l.shared.count - l.done
