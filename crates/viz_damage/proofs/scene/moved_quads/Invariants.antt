-- The quads so far are moved.
use Rattle.std.specs.Prelude.{take}
use Rattle.viz_scene.specs.Views.{quads_view}
use Rattle.viz_damage.specs.inner.Acting.{ActMoved, AlsoFit}
use Rattle.viz_damage.proofs.scene.moved_quads.Given as given

abbrev pub invariant-loop-quad : given.invariant-loop-quad
invariant-loop-quad l = record {
  act : ActMoved l.cut.by l.cut.top l.cut.end (take l.quad-index (quads_view l.quads)) (quads_view l.after.items);
  fit : AlsoFit l.cut.end (take l.quad-index (quads_view l.quads)) (quads_view l.after.items);
}
