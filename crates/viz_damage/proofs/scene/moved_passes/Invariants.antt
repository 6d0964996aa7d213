-- The passes so far are moved.
use Rattle.std.specs.Prelude.{take}
use Rattle.viz_scene.specs.Views.{passes_view}
use Rattle.viz_damage.specs.inner.Acting.{AllActMoved, AllAlsoFit}
use Rattle.viz_damage.proofs.scene.moved_passes.Given as given

abbrev pub invariant-loop-pass : given.invariant-loop-pass
invariant-loop-pass l = record {
  act : AllActMoved l.cut.by l.cut.top l.cut.end (take l.pass-index (passes_view l.passes)) (passes_view l.after.items);
  fit : AllAlsoFit l.cut.end (take l.pass-index (passes_view l.passes)) (passes_view l.after.items);
}
