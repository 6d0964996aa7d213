-- The screen is the one rect that was drawn.
use Rattle.std.proofs.Common.{arith}
use Rattle.std.proofs.lemmas.List.{with_items_is}
use Rattle.viz_canvas.proofs.Redraws.{screen_shown}
use Rattle.viz_canvas.proofs.canvas.Canvas.draw.Goals as goal

pub returns-clause-ok : goal.returns-clause-ok
returns-clause-ok g c =
    let new = c.draw_rects.new.bytes in
    let same = rw (← c.self.view_is) at c.requires in
    let whole = with_items_is c.self.inside.bytes new (omega arith) in
    let drawn = rw (c.screen_of.ensures.value, c.as_mut_slice-bytes.ensures.value) at c.draw_rects.ensures in
    rw whole
    (screen_shown g.F.PixelFormat.DEPTH g.F.PixelFormat.bytes_of c.args.scene.now (record { w = c.self.inside.w; h = c.self.inside.h; bytes = c.self.inside.bytes.items }) new same drawn)
