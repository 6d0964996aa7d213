-- One offset more is set.
use Rattle.std.proofs.Common.{◌==◌, List, get_or, ap, ◌∙◌, subst, rules}
use Rattle.model_states.specs.declared.Synced.{Synced}
use Rattle.model_states.specs.Bounds.{IsBounded}
use Rattle.page_properties.specs.OffsetMap.{offset_at}
use Rattle.page_layers.specs.Axes.{across, down}
use Rattle.page_layers.specs.Scrolls.{IsInRange}
use Rattle.page_layers.specs.Scrollers.{most}
use Rattle.impl_scroll.specs.declared.row.Row.{Row}
use Rattle.impl_scroll.specs.inner.Stages.{value_in, point_at}
use Rattle.impl_scroll.specs.inner.Steps.{ids_of}
use Rattle.impl_scroll.proofs.RowFacts.{value_at}
use Rattle.impl_scroll.proofs.RowLists.{no_row, taken_all}
use Rattle.impl_scroll.proofs.RowOffsets.{among_at, offset_more, range_more, point_is, all_offsets}
use Rattle.impl_scroll.proofs.offsets.offsets_of.Goals as goal

pub point_in-requires-clause-x_bounded : goal.point_in-requires-clause-x_bounded
point_in-requires-clause-x_bounded c = subst IsBounded (value_at c.args.rows.now c.loop-row.row-index no_row across c.requires.rising (search rules)) (c.requires.bounded (get_or c.args.rows.now c.loop-row.row-index no_row).scroller across)

pub point_in-requires-clause-y_bounded : goal.point_in-requires-clause-y_bounded
point_in-requires-clause-y_bounded c = subst IsBounded (value_at c.args.rows.now c.loop-row.row-index no_row down c.requires.rising (search rules)) (c.requires.bounded (get_or c.args.rows.now c.loop-row.row-index no_row).scroller down)

pub point_in-requires-clause-x_in_range : goal.point_in-requires-clause-x_in_range
point_in-requires-clause-x_in_range c =
    let r : Row = get_or c.args.rows.now c.loop-row.row-index no_row in
    subst (λ (v : Synced). IsInRange (most c.args.page.now r.scroller across) (value_in c.args.stage c.args.page.now r.scroller across v))
    (value_at c.args.rows.now c.loop-row.row-index no_row across c.requires.rising (search rules)) (c.requires.in_range r.scroller across)

pub point_in-requires-clause-y_in_range : goal.point_in-requires-clause-y_in_range
point_in-requires-clause-y_in_range c =
    let r : Row = get_or c.args.rows.now c.loop-row.row-index no_row in
    subst (λ (v : Synced). IsInRange (most c.args.page.now r.scroller down) (value_in c.args.stage c.args.page.now r.scroller down v))
    (value_at c.args.rows.now c.loop-row.row-index no_row down c.requires.rising (search rules)) (c.requires.in_range r.scroller down)

pub loop-row-preserved : goal.loop-row-preserved
loop-row-preserved c =
    let rs = c.args.rows.now in
    let i = c.loop-row.row-index in
    record {
      value = λ k. offset_more (point_at c.args.stage c.args.page.now rs) rs i no_row k c.point_in.result (offset_at c.set.new.self k) (offset_at c.loop-row.offsets k) (search rules) (point_is c.args.stage c.args.page.now rs i c.point_in.result c.requires.rising (search rules) c.point_in.ensures.value) (c.in_ok-set.ensures.offsets k) (c.loop-row.invariant.value k);
      in_range = λ k. range_more (k == (get_or rs i no_row).scroller) c.point_in.result (offset_at c.set.new.self k) (offset_at c.loop-row.offsets k) (c.in_ok-set.ensures.offsets k) c.point_in.ensures.in_range (c.loop-row.invariant.in_range k);
    }

pub returns-clause-value : goal.returns-clause-value
returns-clause-value c = λ sc.
    c.loop-row.invariant.value sc
    ∙ ap (λ (xs : List Row). among_at (ids_of xs) (point_at c.args.stage c.args.page.now c.args.rows.now) sc) (taken_all c.args.rows.now c.loop-row.row-index (search rules))
    ∙ all_offsets c.args.stage c.args.page.now c.args.rows.now sc c.requires.in_range
