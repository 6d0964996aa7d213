use Rattle.std.proofs.Common.{◌≡◌, ℕ, ℤ, pos, false, List, ap, sym, ◌∙◌, subst}
use Rattle.std.specs.List.{flat_map}
use Rattle.model_states.specs.declared.Synced.{Synced}
use Rattle.model_states.specs.Table.{zero, added}
use Rattle.page_layers.specs.Axes.{amount_in}
use Rattle.model_history.proofs.BoolFacts.{not_both, is_false}
use Rattle.impl_scroll.specs.declared.row.Row.{Row}
use Rattle.impl_scroll.specs.declared.steps.ValueStep.TheVariants as step
use Rattle.impl_scroll.specs.Rows.{row_value, has_number}
use Rattle.impl_scroll.specs.inner.Steps.{ids_of, AreRising, scroller_moved}
use Rattle.impl_scroll.proofs.CoverFacts.{unnamed}
use Rattle.impl_scroll.proofs.StepFacts.{stepped_rising, all_stepped}
use Rattle.impl_scroll.proofs.scroll_values.ScrollValues.add.Goals as goal

pub invariant_of-self-2 : goal.invariant_of-self-2
invariant_of-self-2 c = subst AreRising (sym c.step_all.ensures) (stepped_rising (step.Add c.args.moves) c.cover_all.new.rows.items c.cover_all.ensures.rising)

pub returns-clause-ok : goal.returns-clause-ok
returns-clause-ok c = λ sc ax.
    let ms = c.args.moves.now in
    let rs : List Row = c.cover_all.new.rows.items in
    let still : has_number (ids_of rs) sc ≡ false → amount_in sc ax ms ≡ pos 0 =
    λ e. unnamed ms sc ax (is_false (has_number (flat_map scroller_moved ms) sc) (λ t. not_both (has_number (ids_of rs) sc) (c.in_ok-cover_all.ensures.covered sc (ap (λ (ns : List ℕ). has_number ns sc) (c.as_slice.ensures.value ∙ c.in_ok-scrollers.ensures) ∙ t)) e)) in
    all_stepped (step.Add c.args.moves) rs c.step_all.new.rows.items sc ax c.step_all.ensures (λ e. ap (λ (z : ℤ). added z zero) (still e))
    ∙ ap (λ (v : Synced). added (amount_in sc ax ms) v) (c.in_ok-cover_all.ensures.same sc ax ∙ ap (λ (xs : List Row). row_value xs sc ax) c.self.view_is)
