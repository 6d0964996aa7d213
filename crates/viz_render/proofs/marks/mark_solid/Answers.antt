-- What is marked lies on the rect.
use Rattle.std.proofs.Common.{arith, ◌≡◌, ◌<◌, true, pos, ◌+ℤ◌}
use Rattle.pixel.specs.Surfaces.{holds}
use Rattle.page_display_list.specs.Bitmaps.{near}
use Rattle.viz_scene.specs.Views.{plain}
use Rattle.viz_render.specs.inner.Masks.{Hides}
use Rattle.viz_render.proofs.MarkSteps.{marks_like, colour_hides}
use Rattle.viz_render.proofs.marks.mark_solid.Goals as goal

pub returns-in-Some : goal.returns-in-Some
returns-in-Some c = record {
  marks =
      marks_like c.args.number (λ x y. holds c.in-Some.part.at x y ≡ true)
      (λ x y. x < near c.args.area.w → y < near c.args.area.h → Hides (plain c.args.at c.args.colour) (c.args.area.x +ℤ pos x) (c.args.area.y +ℤ pos y)) c.args.tops.now c.mark_all.new.tops
      c.mark_all.ensures.marks
      (λ x y held xw yh. colour_hides c.args.at c.args.area c.args.colour c.in-Some.part c.in-Some.ensures (omega (arith, c.a.ensures, c.if-a-ne255.false)) x y held xw yh);
}
