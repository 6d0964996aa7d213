-- The rows that are not marked are level for one more item.
use Rattle.std.proofs.Common.{◌≤◌, ◌+◌, List, length, ◌∙◌, ap, subst, arith}
use Rattle.std.specs.Prelude.{slice_index_or}
use Rattle.std.proofs.lemmas.List.{take_all}
use Rattle.page_display_list.specs.declared.Item.{Item}
use Rattle.tile_raster.specs.inner.Bands.{IsLevel, AreLevel}
use Rattle.tile_raster.proofs.Places.{all_more}
use Rattle.tile_raster.proofs.changes.mark_items.Goals as goal

pub loop-item-preserved : goal.loop-item-preserved
loop-item-preserved c =
    let items = c.items-item-items.ensures.value in
    let i = c.loop-item.item-index in
    let item = c.item-item.result in
    record {
      count = c.mark_item.auto.rows ∙ c.loop-item.invariant.count;
      level = λ y lt same.
          all_more (λ it. IsLevel it c.args.rect y) c.args.list.now i item (omega (arith, c.loop-item-test.true, ap length items))
          (c.item-item.is ∙ ap (λ (l : List Item). slice_index_or l i item) items)
          (c.loop-item.invariant.level y lt (c.mark_item.ensures.kept (y + 1) same)) (c.mark_item.ensures.level y lt same);
    }

pub returns : goal.returns
returns c = λ y lt same.
    let all : length c.args.list.now ≤ c.loop-item.item-index = omega (arith, c.loop-item-test.false, ap length c.items-item-items.ensures.value) in
    subst (λ (l : List Item). AreLevel l c.args.rect y) (take_all c.loop-item.item-index c.args.list.now all) (c.loop-item.invariant.level y lt same)
