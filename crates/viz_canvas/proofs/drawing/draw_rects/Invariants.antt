-- The rects so far are drawn.
use Rattle.std.specs.Prelude.{take}
use Rattle.viz_render.specs.Surfaces.{AreReady}
use Rattle.viz_canvas.specs.Buffers.{IsDrawnIn}
use Rattle.viz_canvas.proofs.drawing.draw_rects.Given as given

abbrev pub invariant-loop-rect : given.invariant-loop-rect
invariant-loop-rect g l = record {
  drawn : IsDrawnIn g.F.PixelFormat.DEPTH g.F.PixelFormat.bytes_of l.scene l.across (take l.rect-index l.rects) l.initial.bytes l.bytes;
  ready : AreReady l.scene l.surfaces;
}
