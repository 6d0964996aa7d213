-- Each rect is drawn beside those before it.
use Rattle.std.proofs.Common.{subst}
use Rattle.std.proofs.lemmas.List.{take_all}
use Rattle.geom.specs.Common.{empty_rect}
use Rattle.viz_canvas.specs.Buffers.{IsDrawnIn}
use Rattle.viz_canvas.proofs.Redraws.{region_more}
use Rattle.viz_canvas.proofs.drawing.draw_rects_in_parts.Goals as goal

pub loop-rect-preserved : goal.loop-rect-preserved
loop-rect-preserved g c = record {
  drawn =
      region_more g.F.PixelFormat.DEPTH g.F.PixelFormat.bytes_of c.args.scene.now c.args.across c.args.rects.now c.loop-rect.rect-index empty_rect c.args.bytes.now c.loop-rect.bytes c.draw_rect_in_parts.new.bytes
      c.loop-rect-test.true c.loop-rect.invariant.drawn c.draw_rect_in_parts.ensures.drawn;
  ready = c.draw_rect_in_parts.ensures.ready;
}

pub returns : goal.returns
returns g c =
    subst (λ rects. IsDrawnIn g.F.PixelFormat.DEPTH g.F.PixelFormat.bytes_of c.args.scene.now c.args.across rects c.args.bytes.now c.loop-rect.bytes)
    (take_all c.loop-rect.rect-index c.args.rects.now c.loop-rect-test.false) c.loop-rect.invariant.drawn
