-- The quads so far are marked.
use Rattle.std.specs.Prelude.{◌≡◌, length, take, All}
use Rattle.viz_scene.specs.Views.{quads_view}
use Rattle.viz_canvas.specs.inner.Fresh.{ActsAlike, AreStale, StaysMarked}
use Rattle.viz_canvas.proofs.fresh.mark_quads.Given as given

abbrev pub invariant-loop-quad : given.invariant-loop-quad
invariant-loop-quad l = record {
  size : length l.fresh ≡ length l.initial.fresh;
  keeps : StaysMarked l.initial.fresh l.fresh;
  alike : AreStale l.area l.fresh (λ y. All (ActsAlike l.area y) (take l.quad-index (quads_view l.quads)));
}
