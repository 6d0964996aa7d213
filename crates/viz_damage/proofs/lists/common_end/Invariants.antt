-- The quads of both ends act alike.
use Rattle.std.specs.Prelude.{◌≤◌, ◌-◌, length, drop}
use Rattle.viz_scene.specs.Views.{quads_view}
use Rattle.viz_damage.specs.inner.Alike.{ActListsAlike}
use Rattle.viz_damage.proofs.lists.common_end.Given as given

abbrev pub invariant-loop-end : given.invariant-loop-end
invariant-loop-end l = record {
  old : l.end ≤ length l.old;
  new : l.end ≤ length l.new;
  alike : ActListsAlike (quads_view (drop (length l.old - l.end) l.old)) (quads_view (drop (length l.new - l.end) l.new));
}

abbrev pub decreases-loop-end : given.decreases-loop-end
decreases-loop-end l = length l.old - l.end
