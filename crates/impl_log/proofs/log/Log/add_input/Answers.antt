use Rattle.std.proofs.Common.{reverse, ap, sym, ◌∙◌, subst}
use Rattle.model_history.specs.Scripts.{ScriptModel}
use Rattle.model_history.specs.Due.{input_now}
use Rattle.model_history.specs.Accepted.{IsPlayable}
use Rattle.model_history.specs.Growth.{with_input, has_looked_ahead}
use Rattle.impl_log.specs.declared.progress.Progress.{Progress}
use Rattle.impl_log.specs.Runs.{Run, past}
use Rattle.impl_log.proofs.GrownLogs.{grown_by_input, knows_told}
use Rattle.impl_log.proofs.log.Log.add_input.Goals as goal

pub add_input-requires : goal.add_input-requires
add_input-requires c = subst (λ (r : Run). IsPlayable (with_input r.script c.args.input)) (sym c.self.view_is) c.requires.playable

pub invariant_of-self : goal.invariant_of-self
invariant_of-self c = (
  grown_by_input c.self.inside.plan c.add_input.new.self c.self.inside.workers (reverse c.self.inside.history.entries) c.self.inside.progress c.self.inside.history.spare c.self.inside.places c.self.inside.history.first
      (ap (λ (r : Run). has_looked_ahead (past r)) c.self.view_is ∙ c.requires.looked) c.self.invariant.0 c.args.input c.add_input.ensures,
  knows_told c.self.inside.plan c.self.inside.workers (reverse c.self.inside.history.entries) c.args.input c.add_input.new.self.inputs c.self.inside.progress.inputs c.self.invariant.0.legal
      (ap (λ (r : Run). input_now r.script (past r)) c.self.view_is ∙ c.requires.none) (ap (λ (p : Progress). p.inputs) c.self.invariant.0.progress) (ap (λ (s : ScriptModel). s.inputs) c.add_input.ensures),
)
