-- The area of the rows that are kept is drawn where the item covers the picture.
use Rattle.page_display_list.specs.Bitmaps.{near}
use Rattle.tile_raster.specs.inner.Bands.{IsLevel}
use Rattle.tile_raster.proofs.Draws.{area_rises, kept_inside, kept_height, colour_shown, picture_shown}
use Rattle.tile_raster.proofs.draw.draw_item.Goals as goal

pub kept_part-at-requires-clause-rises : goal.kept_part-at-requires-clause-rises
kept_part-at-requires-clause-rises c =
    area_rises (IsLevel c.args.item.now c.args.rect) (near c.args.rect.h) (near c.args.rect.w) c.in-Some.part.at c.args.places.now c.args.kept
    c.requires.steps c.requires.kept c.in-Some.ensures.inside

pub draw_colour-requires-clause-inside : goal.draw_colour-requires-clause-inside
draw_colour-requires-clause-inside c =
    rw (c.width_of-width.ensures, c.kept_part-at.ensures)
    (kept_inside (IsLevel c.args.item.now c.args.rect) (near c.args.rect.h) (near c.args.rect.w) c.in-Some.part.at c.args.places.now c.args.kept
    c.requires.steps c.requires.kept c.in-Some.ensures.inside)

pub draw_bitmap-requires-clause-inside : goal.draw_bitmap-requires-clause-inside
draw_bitmap-requires-clause-inside c =
    rw (c.width_of-width.ensures, c.kept_part-at.ensures)
    (kept_inside (IsLevel c.args.item.now c.args.rect) (near c.args.rect.h) (near c.args.rect.w) c.in-Some.part.at c.args.places.now c.args.kept
    c.requires.steps c.requires.kept c.in-Some.ensures.inside)

pub draw_bitmap-requires-clause-rows : goal.draw_bitmap-requires-clause-rows
draw_bitmap-requires-clause-rows c =
    let shared = rw (c.rect.ensures, c.in-Bitmap.is) at c.in-Some.ensures in
    rw c.kept_part-at.ensures
    (kept_height (IsLevel c.args.item.now c.args.rect) (near c.args.rect.h) (near c.args.rect.w) c.in-Some.part.at c.args.places.now c.args.kept
    c.in-Some.part.above (near c.in-Bitmap.bitmap.rect.h) c.requires.steps c.requires.kept c.in-Some.ensures.inside shared.rows)

pub returns-in-Rect-clause-pixels : goal.returns-in-Rect-clause-pixels
returns-in-Rect-clause-pixels c =
    let shared = rw (c.rect.ensures, c.in-Rect.is) at c.in-Some.ensures in
    let steps = rw c.in-Rect.is at c.requires.steps in
    let each = rw (c.width_of-width.ensures, c.kept_part-at.ensures) at c.draw_colour.ensures.pixels in
    rw c.in-Rect.is
    (colour_shown c.in-Rect.rect c.args.rect c.in-Some.part c.in-Rect.colour c.args.places.now c.args.bytes.now c.draw_colour.new.bytes c.args.kept
    steps c.requires.kept shared each)

pub returns-in-Bitmap-clause-pixels : goal.returns-in-Bitmap-clause-pixels
returns-in-Bitmap-clause-pixels c =
    let shared = rw (c.rect.ensures, c.in-Bitmap.is) at c.in-Some.ensures in
    let steps = rw c.in-Bitmap.is at c.requires.steps in
    let each = rw (c.width_of-width.ensures, c.kept_part-at.ensures) at c.draw_bitmap.ensures.pixels in
    rw c.in-Bitmap.is
    (picture_shown c.in-Bitmap.bitmap c.args.rect c.in-Some.part c.args.places.now c.args.bytes.now c.draw_bitmap.new.bytes c.args.kept
    steps c.requires.kept shared each)
