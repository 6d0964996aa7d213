-- The part that is drawn holds the points that the item's rect covers.
use Rattle.page_display_list.proofs.Draws.{colour_shown, picture_shown}
use Rattle.page_display_list.proofs.raster.draw.Goals as goal

pub returns-in-Rect-clause-pixels : goal.returns-in-Rect-clause-pixels
returns-in-Rect-clause-pixels c =
    let shared = rw (c.rect.ensures, c.in-Rect.is) at c.in-Some.ensures in
    let each = rw (c.width_of-width.ensures, c.height_of-height.ensures) at c.draw_colour.ensures.pixels in
    rw c.in-Rect.is
    (colour_shown c.in-Rect.rect c.args.area c.in-Some.part c.in-Rect.colour c.args.surface.now c.draw_colour.new.surface shared each)

pub returns-in-Bitmap-clause-pixels : goal.returns-in-Bitmap-clause-pixels
returns-in-Bitmap-clause-pixels c =
    let shared = rw (c.rect.ensures, c.in-Bitmap.is) at c.in-Some.ensures in
    let each = rw (c.width_of-width.ensures, c.height_of-height.ensures) at c.draw_bitmap.ensures.pixels in
    rw c.in-Bitmap.is
    (picture_shown c.in-Bitmap.bitmap c.args.area c.in-Some.part c.args.surface.now c.draw_bitmap.new.surface shared each)
