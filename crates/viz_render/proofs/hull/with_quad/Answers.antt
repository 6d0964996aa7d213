-- The hull takes in the part of the area that the quad's rect covers.
use Rattle.std.proofs.Common.{pos, ◌+ℤ◌, ◌∙◌}
use Rattle.pixel.specs.Colours.{clear}
use Rattle.page_display_list.specs.Bitmaps.{near}
use Rattle.viz_render.specs.inner.Drawing.{colours}
use Rattle.viz_render.proofs.hull.with_quad.Goals as goal

pub returns-in-Some : goal.returns-in-Some
returns-in-Some c = record {
  inside = record {
    across = c.joined.ensures.right (near c.args.area.w) c.requires.hull.across c.in-Some.ensures.inside.across;
    down = c.joined.ensures.bottom (near c.args.area.h) c.requires.hull.down c.in-Some.ensures.inside.down;
  };
  before = λ x y off. (c.joined.ensures.outside x y off).0;
  outside = λ x y xw yh off.
      c.quad_rect-rect.ensures.outside (c.args.area.x +ℤ pos x) (c.args.area.y +ℤ pos y) (c.in-Some.ensures.points x y xw yh ∙ (c.joined.ensures.outside x y off).1);
}

pub returns-in-None : goal.returns-in-None
returns-in-None c = record {
  inside = c.requires.hull;
  before = λ x y off. off;
  outside = λ x y xw yh off. c.quad_rect-rect.ensures.outside (c.args.area.x +ℤ pos x) (c.args.area.y +ℤ pos y) (c.in-None.ensures x y xw yh);
}

pub returns-then-lies_beside : goal.returns-then-lies_beside
returns-then-lies_beside c = record {
  inside = c.requires.hull;
  before = λ x y off. off;
  outside = λ x y xw yh off.
      c.lies_beside.ensures c.if-lies_beside.true (colours c.args.passes.now (c.args.area.x +ℤ pos x) (c.args.area.y +ℤ pos y)) x y clear xw yh;
}
