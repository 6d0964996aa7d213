-- Each item is drawn as the rows were kept for it, and at the end all were drawn.
use Rattle.std.proofs.Common.{◌≤◌, pos, ◌+ℤ◌, List, length, sym, ◌∙◌, ap, subst, arith}
use Rattle.std.specs.Prelude.{slice_index_or}
use Rattle.std.proofs.lemmas.List.{take_all}
use Rattle.page_display_list.specs.declared.Item.{Item}
use Rattle.page_display_list.specs.Bitmaps.{near}
use Rattle.page_display_list.specs.Content.{content}
use Rattle.tile_raster.specs.inner.Bands.{IsLevel, AreLevel}
use Rattle.tile_raster.proofs.KeptRows.{rows_kept}
use Rattle.tile_raster.proofs.Places.{steps_map, place_below}
use Rattle.tile_raster.proofs.draw.draw_items.Goals as goal

pub draw_item-requires-clause-steps : goal.draw_item-requires-clause-steps
draw_item-requires-clause-steps c =
    let items = c.items-item-items.ensures.value in
    let i = c.loop-item.item-index in
    let item = c.item-item.result in
    let is = c.item-item.is ∙ ap (λ (l : List Item). slice_index_or l i item) items in
    steps_map (AreLevel c.args.list.now c.args.rect) (IsLevel item c.args.rect) (near c.args.rect.h) c.args.places.now c.requires.steps
    (λ y lt level. subst (λ (it : Item). IsLevel it c.args.rect y) (sym is) (level i item (omega (arith, c.loop-item-test.true, ap length items))))

pub returns : goal.returns
returns c =
    let all : length c.args.list.now ≤ c.loop-item.item-index = omega (arith, c.loop-item-test.false, ap length c.items-item-items.ensures.value) in
    rows_kept c.args.list.now c.args.rect c.args.places.now c.loop-item.bytes c.args.kept
    (λ y lt. place_below (AreLevel c.args.list.now c.args.rect) (near c.args.rect.h) c.args.places.now c.args.kept y c.requires.steps c.requires.kept lt)
    (c.loop-item.auto.bytes ∙ c.requires.size) c.loop-item.invariant.premultiplied
    (λ x y xw yh.
    c.loop-item.invariant.pixels x y xw yh
    ∙ ap (λ (l : List Item). content l (c.args.rect.x +ℤ pos x) (c.args.rect.y +ℤ pos y)) (take_all c.loop-item.item-index c.args.list.now all))
