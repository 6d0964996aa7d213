use Rattle.std.proofs.Common.{◌≡◌, ℕ, ℤ, pos, false, List, ap, sym, ◌∙◌, subst}
use Rattle.model_states.specs.declared.Synced.{Synced}
use Rattle.model_states.specs.Table.{zero, pushed}
use Rattle.page_layers.specs.Scrollers.{scrollers, has_scroller, main_value}
use Rattle.model_history.proofs.BoolFacts.{not_both, is_false}
use Rattle.model_history.proofs.PageStanding.{has_listed}
use Rattle.impl_scroll.specs.declared.row.Row.{Row}
use Rattle.impl_scroll.specs.declared.steps.ValueStep.TheVariants as step
use Rattle.impl_scroll.specs.Rows.{row_value, has_number}
use Rattle.impl_scroll.specs.inner.Steps.{ids_of, AreRising}
use Rattle.impl_scroll.proofs.CoverFacts.{main_missing}
use Rattle.impl_scroll.proofs.RowLists.{any_has}
use Rattle.impl_scroll.proofs.StepFacts.{stepped_rising, all_stepped}
use Rattle.impl_scroll.proofs.scroll_values.ScrollValues.push.Goals as goal

pub invariant_of-self-2 : goal.invariant_of-self-2
invariant_of-self-2 c = subst AreRising (sym c.step_all.ensures) (stepped_rising (step.Push c.args.page) c.cover_all.new.rows.items c.cover_all.ensures.rising)

pub returns-clause-ok : goal.returns-clause-ok
returns-clause-ok c = λ sc ax.
    let p = c.args.page.now in
    let rs : List Row = c.cover_all.new.rows.items in
    let same : has_number c.as_slice.result.now sc ≡ has_scroller p sc =
    ap (λ (ns : List ℕ). has_number ns sc) (c.as_slice.ensures.value ∙ c.in_ok-scrollers.ensures) ∙ sym (any_has (scrollers p) sc) ∙ has_listed p sc in
    let still : has_number (ids_of rs) sc ≡ false → main_value p sc ax ≡ pos 0 =
    λ e. main_missing p sc ax c.is_page.ensures.values (is_false (has_scroller p sc) (λ t. not_both (has_number (ids_of rs) sc) (c.in_ok-cover_all.ensures.covered sc (same ∙ t)) e)) in
    all_stepped (step.Push c.args.page) rs c.step_all.new.rows.items sc ax c.step_all.ensures (λ e. ap (λ (z : ℤ). pushed z zero) (still e))
    ∙ ap (λ (v : Synced). pushed (main_value p sc ax) v) (c.in_ok-cover_all.ensures.same sc ax ∙ ap (λ (xs : List Row). row_value xs sc ax) c.self.view_is)
