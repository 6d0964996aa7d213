-- Each pass is one more, and the root has a group of it.
use Rattle.std.proofs.Common.{◌+◌, ◌∙◌, ap, length, arith}
use Rattle.std.proofs.lemmas.List.{length-append}
use Rattle.test_draw.proofs.Passes.{quads_push, passes_push, large_side, some_pass}
use Rattle.test_draw.proofs.scenes.grouped.Goals as goal

pub loop-pass-preserved : goal.loop-pass-preserved
loop-pass-preserved c = record {
  count = ap length c.in_ok-push.ensures.items ∙ length-append c.loop-pass.passes.items _ ∙ ap (λ n. n + 1) c.loop-pass.invariant.count;
  passes =
      passes_push c.loop-pass.pass c.loop-pass.passes.items c.push.new.self.items _ c.in_ok-push.ensures.items c.loop-pass.invariant.count c.loop-pass.invariant.passes
      (c.in_ok-add_layer.ensures c.loop-pass.pass);
  root =
      quads_push c.args.layers c.loop-pass.root.items c.push-in-loop-pass.new.self.items _ c.in_ok-push-2.ensures.items c.loop-pass.invariant.root
      c.loop-pass-test.true;
}

pub new-requires : goal.new-requires
new-requires c = record {
  wide = large_side;
  tall = large_side;
  some = some_pass _ _ _ c.in_ok-push-3.ensures.items;
  sound = passes_push c.args.layers _ _ _ c.in_ok-push-3.ensures.items (omega (arith, c.loop-pass.invariant.count)) c.loop-pass.invariant.passes c.loop-pass.invariant.root;
}
