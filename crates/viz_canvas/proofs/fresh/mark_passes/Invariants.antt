-- The passes so far are marked.
use Rattle.std.specs.Prelude.{◌≡◌, length, take, All}
use Rattle.viz_scene.specs.Views.{passes_view}
use Rattle.viz_canvas.specs.inner.Fresh.{ActsAlike, AreStale}
use Rattle.viz_canvas.proofs.fresh.mark_passes.Given as given

abbrev pub invariant-loop-pass : given.invariant-loop-pass
invariant-loop-pass l = record {
  size : length l.fresh ≡ length l.initial.fresh;
  alike : AreStale l.area l.fresh (λ y. All (All (ActsAlike l.area y)) (take l.pass-index (passes_view l.passes)));
}
