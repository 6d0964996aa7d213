use Rattle.std.proofs.Common.{List, ap, sym, ◌∙◌, subst}
use Rattle.page_layers.proofs.KeptPages.{weaken}
use Rattle.impl_scroll.specs.declared.row.Row.{Row}
use Rattle.impl_scroll.specs.inner.Stages.{clamp_at}
use Rattle.impl_scroll.specs.inner.Steps.{AreRising}
use Rattle.impl_scroll.proofs.RowLists.{listed_rise, amount_is, clamp_none}
use Rattle.impl_scroll.proofs.scroll_values.ScrollValues.clamps.Goals as goal

pub returns-clause-rising : goal.returns-clause-rising
returns-clause-rising c =
    let rs : List Row = c.as_slice.result.now in
    weaken c.clamp_moves.result (λ ms e. listed_rise (clamp_at c.args.outright.now c.args.page.now rs) rs ms (subst AreRising (sym c.as_slice.ensures.value) c.self.invariant) e) c.clamp_moves.ensures

pub returns-clause-amounts : goal.returns-clause-amounts
returns-clause-amounts c =
    let rs : List Row = c.as_slice.result.now in
    weaken c.clamp_moves.result
    (λ ms e sc ax.
    amount_is (clamp_at c.args.outright.now c.args.page.now rs) rs ms sc ax (clamp_none c.args.outright.now c.args.page.now rs sc ax) e
    ∙ ap (λ (xs : List Row). clamp_at c.args.outright.now c.args.page.now xs sc ax) (c.as_slice.ensures.value ∙ c.self.view_is))
    c.clamp_moves.ensures
