-- The passes so far are drawn.
use Rattle.std.specs.Prelude.{ℕ, take}
use Rattle.viz_scene.specs.Views.{passes_view}
use Rattle.viz_render.specs.inner.Drawing.{AreRoomy}
use Rattle.viz_render.specs.inner.Shown.{ShowOpenPasses}
use Rattle.viz_render.proofs.passes.draw_passes.Given as given

abbrev pub invariant-loop-i : given.invariant-loop-i
invariant-loop-i l = record {
  pixels : ShowOpenPasses l.area l.root.mask.now.tops l.root.number (passes_view (take l.i l.passes)) (take l.i l.surfaces);
  room : (n : ℕ) → AreRoomy n l.initial.surfaces → AreRoomy n l.surfaces;
}
