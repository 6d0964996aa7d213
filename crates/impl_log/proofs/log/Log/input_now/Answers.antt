use Rattle.std.proofs.Common.{ℕ, ◌∙◌, ap, slice_get}
use Rattle.model_history.specs.Due.{input_now}
use Rattle.impl_log.specs.declared.progress.Progress.{Progress}
use Rattle.impl_log.specs.Runs.{Run, past}
use Rattle.impl_log.proofs.log.Log.input_now.Goals as goal

pub returns : goal.returns
returns c =
    c.next.ensures c.self.inside.plan.inputs c.self.invariant.1
    ∙ (ap (λ (p : Progress). slice_get c.self.inside.plan.inputs p.inputs) c.self.invariant.0.progress ∙ ap (λ (r : Run). input_now r.script (past r)) c.self.view_is)
