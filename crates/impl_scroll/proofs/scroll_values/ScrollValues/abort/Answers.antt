use Rattle.std.proofs.Common.{List, refl, ap, sym, ◌∙◌, subst}
use Rattle.model_states.specs.Table.{aborted}
use Rattle.impl_scroll.specs.declared.row.Row.{Row}
use Rattle.impl_scroll.specs.declared.steps.ValueStep.TheVariants as step
use Rattle.impl_scroll.specs.Rows.{row_value}
use Rattle.impl_scroll.specs.inner.Steps.{AreRising}
use Rattle.impl_scroll.proofs.StepFacts.{stepped_rising, all_stepped}
use Rattle.impl_scroll.proofs.scroll_values.ScrollValues.abort.Goals as goal

pub invariant_of-self : goal.invariant_of-self
invariant_of-self c = subst AreRising (sym c.step_all.ensures) (stepped_rising step.Abort c.self.inside.rows.items c.self.invariant)

pub returns : goal.returns
returns c = λ sc ax.
    all_stepped step.Abort c.self.inside.rows.items c.step_all.new.rows.items sc ax c.step_all.ensures (λ e. refl)
    ∙ ap (λ (rs : List Row). aborted (row_value rs sc ax)) c.self.view_is
