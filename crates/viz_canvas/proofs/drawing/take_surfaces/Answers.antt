-- Each is ready as it is made.
use Rattle.std.proofs.Common.{◌+◌, length, ap, ◌∙◌}
use Rattle.std.proofs.lemmas.List.{length-append}
use Rattle.std.proofs.lemmas.List.Elements.{All-push, All-same}
use Rattle.viz_render.specs.Surfaces.{AreReady}
use Rattle.viz_canvas.proofs.drawing.take_surfaces.Goals as goal

pub loop-preserved : goal.loop-preserved
loop-preserved c =
    let made = c.in_ok-push.ensures.items in
    record {
      count = ap length made ∙ length-append c.loop.surfaces.items _ ∙ ap (λ n. n + 1) c.loop.invariant.count;
      ready = All-same (AreReady c.args.scene.now) c.push.new.self.items _ made (All-push (AreReady c.args.scene.now) c.loop.surfaces.items c.in_ok-new.field-0 c.loop.invariant.ready c.in_ok-new.ensures);
    }
