-- The pixels of the image are those of the bitmap.
use Rattle.page_display_list.proofs.raster.draw_bitmap.Goals as goal

pub returns-clause-pixels : goal.returns-clause-pixels
returns-clause-pixels c = rw (c.as_pixels-pixels.ensures) at c.image_over_area.ensures.pixels
