-- One more item is drawn over what the items before it show.
use Rattle.std.proofs.Common.{◌+◌, ◌*◌, pos, ◌+ℤ◌, take, sym, ◌∙◌, ap}
use Rattle.std.specs.Prelude.{fold}
use Rattle.std.proofs.lemmas.List.Sums.{fold_more}
use Rattle.pixel.specs.Colours.{Parts}
use Rattle.pixel.specs.Rows.{pixel}
use Rattle.page_display_list.specs.Bitmaps.{near}
use Rattle.page_display_list.specs.Content.{painted}
use Rattle.page_display_list.proofs.raster.draw_items.Goals as goal

pub loop-item-preserved : goal.loop-item-preserved
loop-item-preserved c = record {
  pixels = λ x y xw yh.
      let f = painted (c.args.area.x +ℤ pos x) (c.args.area.y +ℤ pos y) in
      let start = pixel c.args.surface.now (y * near c.args.area.w + x) in
      let i = c.loop-item.item-index in
      c.draw.ensures.pixels x y xw yh
      ∙ ap (λ (below : Parts). f below c.item-item.result) (c.loop-item.invariant.pixels x y xw yh)
      ∙ ap (f (fold f start (take i c.args.items.now))) c.item-item.is
      ∙ sym (fold_more f start c.args.items.now i c.item-item.result c.loop-item-test.true);
  premultiplied = λ old. c.draw.ensures.premultiplied (c.loop-item.invariant.premultiplied old);
}
