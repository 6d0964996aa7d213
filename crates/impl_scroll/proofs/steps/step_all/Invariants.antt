-- The rows so far are stepped.
use Rattle.std.proofs.Common.{◌≡◌}
use Rattle.impl_scroll.specs.inner.Steps.{row_stepped}
use Rattle.impl_scroll.proofs.StepFacts.{half}
use Rattle.impl_scroll.proofs.steps.step_all.Given as goal

abbrev pub invariant-loop-i : goal.invariant-loop-i
invariant-loop-i l = l.rows.items ≡ half (row_stepped l.step) l.i l.fn.rows.items
