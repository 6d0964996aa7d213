-- The colours of a pass are those of its surface.
use Rattle.std.proofs.Common.{◌+◌, ◌*◌, pos, ◌+ℤ◌, sym}
use Rattle.pixel.specs.Rows.{pixel}
use Rattle.page_display_list.specs.Bitmaps.{near}
use Rattle.viz_render.specs.inner.Drawing.{colours}
use Rattle.viz_render.proofs.QuadSteps.{group_shown}
use Rattle.viz_render.proofs.quads.draw_quad.Goals as goal

pub returns-in-Group-clause-pixels : goal.returns-in-Group-clause-pixels
returns-in-Group-clause-pixels c =
    rw (c.in-Group.is)
    (group_shown c.args.area c.args.passes.now c.in-Group.pass c.in-Group.opacity c.index-passes-pass.result c.args.seen.mask.now.tops c.args.seen.number c.args.surface.now c.draw_group.new.surface
    (rw (c.in-Group.is) at c.requires.quad) c.index-passes-pass.is c.draw_group.ensures.pixels)

pub returns-then-lies_beside-clause-pixels : goal.returns-then-lies_beside-clause-pixels
returns-then-lies_beside-clause-pixels c = λ x y xw yh seen.
    sym (c.lies_beside.ensures c.if-lies_beside.true (colours c.args.passes.now (c.args.area.x +ℤ pos x) (c.args.area.y +ℤ pos y)) x y
    (pixel c.args.surface.now (y * near c.args.area.w + x)) xw yh)
