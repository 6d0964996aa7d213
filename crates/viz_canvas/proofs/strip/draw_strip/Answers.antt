-- The strip is drawn and written.
use Rattle.std.proofs.Common.{arith}
use Rattle.viz_canvas.proofs.StripSteps.{strip_shown}
use Rattle.viz_canvas.proofs.strip.draw_strip.Goals as goal

pub draw-requires-clause-narrow : goal.draw-requires-clause-narrow
draw-requires-clause-narrow g c = rw (c.rect_of.ensures.value) (omega (arith, c.requires.ready.width, c.requires.place.inside.across))

pub write_area-requires-clause-given : goal.write_area-requires-clause-given
write_area-requires-clause-given g c =
    let fits = rw (c.rect_of.ensures.value) at c.draw.ensures.size in
    rw (c.drawn.ensures) fits

pub returns-clause-drawn : goal.returns-clause-drawn
returns-clause-drawn g c =
    let shown = rw (c.rect_of.ensures.value) at c.draw.ensures.pixels in
    let each = rw (c.drawn.ensures) at c.write_area.ensures in
    strip_shown g.F.PixelFormat.DEPTH g.F.PixelFormat.bytes_of c.args.scene.now c.args.band c.args.at c.draw.new.self.drawn c.args.bytes.now c.write_area.new.bytes shown each
