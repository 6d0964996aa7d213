-- The quads after those that are left are no groups.
use Rattle.std.specs.Prelude.{◌≤◌, length, drop}
use Rattle.viz_scene.specs.Views.{quads_view}
use Rattle.viz_render.specs.inner.Shown.{HaveNoGroup}
use Rattle.viz_render.proofs.shown.last_group.Given as given

abbrev pub invariant-loop-number : given.invariant-loop-number
invariant-loop-number l = record {
  some : l.number ≤ length l.quads;
  after : HaveNoGroup (quads_view (drop l.number l.quads));
}

abbrev pub decreases-loop-number : given.decreases-loop-number
decreases-loop-number l = l.number
