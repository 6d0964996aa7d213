use Rattle.std.specs.Prelude.{◌≡◌, length, All}
use Rattle.viz_scene.specs.Views.{quads_view, passes_view}
use Rattle.viz_scene.specs.Sound.{QuadFits, AreSound}
use Rattle.test_draw.proofs.scenes.grouped.Given as given

abbrev pub invariant-loop-pass : given.invariant-loop-pass
invariant-loop-pass l = record {
  count : length l.passes.items ≡ l.pass;
  passes : AreSound 1024 1024 0 (passes_view l.passes.items);
  root : All (QuadFits 1024 1024 l.layers) (quads_view l.root.items);
}
