-- The tile hides what its image hides.
use Rattle.std.proofs.Common.{◌<◌, pos, ◌+ℤ◌}
use Rattle.page_display_list.specs.Bitmaps.{near}
use Rattle.viz_scene.specs.Views.{plain, tiled}
use Rattle.viz_render.specs.inner.Drawing.{part_pixel}
use Rattle.viz_render.specs.inner.Masks.{Hides, HidesIn}
use Rattle.viz_render.proofs.Tiles.{taken}
use Rattle.viz_render.proofs.MarkSteps.{marks_like, marks_none, tile_hides, solid_hides}
use Rattle.viz_render.proofs.marks.mark_tile.Goals as goal

pub returns : goal.returns
returns c =
    let marks = rw (c.taken_part-part.ensures) at c.mark_part.ensures.marks in
    record {
      marks = marks_like c.args.number (HidesIn c.in-Some.part.at (part_pixel c.args.image.now (taken c.in-Some.part c.args.from)))
          (λ x y. x < near c.args.area.w → y < near c.args.area.h → Hides (tiled c.args.image.now c.args.at c.args.from) (c.args.area.x +ℤ pos x) (c.args.area.y +ℤ pos y))
          c.args.tops.now c.mark_part.new.tops marks
          (tile_hides c.args.image.now c.args.at c.args.area c.args.from c.in-Some.part c.requires.taken c.in-Some.ensures);
    }

pub returns-in-Some-solid : goal.returns-in-Some-solid
returns-in-Some-solid c = record {
  marks =
      marks_like c.args.number
      (λ x y. x < near c.args.area.w → y < near c.args.area.h → Hides (plain c.args.at c.in-Some-solid.colour) (c.args.area.x +ℤ pos x) (c.args.area.y +ℤ pos y))
      (λ x y. x < near c.args.area.w → y < near c.args.area.h → Hides (tiled c.args.image.now c.args.at c.args.from) (c.args.area.x +ℤ pos x) (c.args.area.y +ℤ pos y))
      c.args.tops.now c.mark_solid.new.tops c.mark_solid.ensures.marks
      (λ x y hides xw yh. solid_hides c.args.image.now c.args.at c.args.from c.in-Some-solid.colour (c.args.area.x +ℤ pos x) (c.args.area.y +ℤ pos y) c.requires.taken c.in-Some-solid.ensures (hides xw yh));
}

pub returns-then-are_marked : goal.returns-then-are_marked
returns-then-are_marked c = record { marks = marks_none c.args.number _ c.args.tops.now c.requires.tops }
