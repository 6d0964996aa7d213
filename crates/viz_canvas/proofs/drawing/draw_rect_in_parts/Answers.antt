-- The part of the screen that the rect covers is drawn.
use Rattle.viz_canvas.proofs.Redraws.{rect_drawn, rect_outside}
use Rattle.viz_canvas.proofs.drawing.draw_rect_in_parts.Goals as goal

pub returns-in-Some-clause-drawn : goal.returns-in-Some-clause-drawn
returns-in-Some-clause-drawn g c =
    rect_drawn g.F.PixelFormat.DEPTH g.F.PixelFormat.bytes_of c.args.scene.now c.args.across c.args.rect c.in-Some.part c.band_of.result c.args.bytes.now c.draw_parts.new.bytes
    c.requires.rows.wide (rw (c.screen_of.ensures.value) at c.in-Some.ensures) c.band_of.ensures.value c.draw_parts.ensures.drawn

pub returns-in_default-clause-drawn : goal.returns-in_default-clause-drawn
returns-in_default-clause-drawn g c =
    rect_outside g.F.PixelFormat.DEPTH g.F.PixelFormat.bytes_of c.args.scene.now c.args.across c.args.rect c.args.bytes.now (rw (c.screen_of.ensures.value) at c.in_default.ensures)
