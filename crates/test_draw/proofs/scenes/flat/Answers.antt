-- The one pass is the root.
use Rattle.std.proofs.Common.{ap, length, subst, sym}
use Rattle.viz_scene.specs.Views.{passes_view}
use Rattle.viz_scene.specs.Sound.{AreSound}
use Rattle.test_draw.proofs.Passes.{passes_push, large_side, some_pass}
use Rattle.test_draw.proofs.scenes.flat.Goals as goal

pub new-requires : goal.new-requires
new-requires c = record {
  wide = large_side;
  tall = large_side;
  some = some_pass _ _ _ c.in_ok-push.ensures.items;
  sound = passes_push 0 _ _ _ c.in_ok-push.ensures.items (ap length c.new-passes.ensures.items)
      (subst (λ ps. AreSound 1024 1024 0 (passes_view ps)) (sym c.new-passes.ensures.items) tt) (c.loop-layer.invariant 0);
}
