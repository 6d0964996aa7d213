-- The items are drawn over transparent pixels.
use Rattle.std.proofs.Common.{◌++◌, ◌≡◌, length, drop, take, arith}
use Rattle.std.proofs.lemmas.List.{take_at}
use Rattle.page_display_list.specs.Bitmaps.{byte_count}
use Rattle.page_display_list.proofs.Draws.{raster_made}
use Rattle.page_display_list.proofs.list.DisplayList.raster.Goals as goal

pub returns : goal.returns
returns c =
    let new = c.draw_items.new.surface in
    let size = rw (c.width_of-width.ensures, c.height_of.ensures) at c.in_ok-bytes.ensures.size in
    let blank = rw (c.width_of-width.ensures, c.height_of.ensures) at c.in_ok-bytes.ensures.pixels in
    let same : length new ≡ byte_count c.args.area.w c.args.area.h = omega arith in
    let whole : take c.in_ok-bytes.bytes.len (new ++ drop (length new) c.in_ok-bytes.bytes.items) ≡ new =
    take_at new (drop (length new) c.in_ok-bytes.bytes.items) c.in_ok-bytes.bytes.len (omega arith) in
    let ready = rw (← c.as_mut_slice.ensures.value) at c.in_ok-bytes.ensures.premultiplied in
    let each = rw (c.as_mut_slice.ensures.value, c.as_slice.ensures.value, c.self.view_is) at c.draw_items.ensures.pixels in
    rw whole
    (raster_made c.args.self.now c.args.area c.in_ok-bytes.bytes.items new same blank (c.draw_items.ensures.premultiplied ready) each)
