-- The quads from the place on were gone through.
use Rattle.std.specs.Prelude.{◌≤◌, length, drop, reverse}
use Rattle.viz_scene.specs.Views.{quads_view}
use Rattle.viz_occlusion.specs.Culled.{AreKept}
use Rattle.viz_occlusion.specs.inner.Cover.{IsCover}
use Rattle.viz_occlusion.proofs.culling.kept_quads.Given as given

abbrev pub invariant-loop-left : given.invariant-loop-left
invariant-loop-left l = record {
  inside : l.left ≤ length l.quads;
  cover : IsCover (quads_view (drop l.left l.quads)) l.cover;
  kept : AreKept (quads_view (drop l.left l.quads)) (quads_view (reverse l.kept.items));
}

abbrev pub decreases-loop-left : given.decreases-loop-left
decreases-loop-left l = l.left
