use Rattle.std.proofs.Common.{List, reverse, ap, sym, ◌∙◌, subst}
use Rattle.model_history.specs.Scripts.{ScriptModel}
use Rattle.model_history.specs.Accepted.{IsPlayable}
use Rattle.model_history.specs.Growth.{with_main_frame, has_looked_ahead}
use Rattle.impl_log.specs.Runs.{Run, past}
use Rattle.impl_log.proofs.GrownLogs.{grown_by_main_frame, knows_still}
use Rattle.impl_log.proofs.log.Log.add_frame.Goals as goal

pub add_frame-requires : goal.add_frame-requires
add_frame-requires c = subst (λ (r : Run). IsPlayable (with_main_frame r.script)) (sym c.self.view_is) c.requires.playable

pub invariant_of-self : goal.invariant_of-self
invariant_of-self c = (
  grown_by_main_frame c.self.inside.plan c.add_frame.new.self c.self.inside.workers (reverse c.self.inside.history.entries) c.self.inside.progress c.self.inside.history.spare c.self.inside.places c.self.inside.history.first
      (ap (λ (r : Run). has_looked_ahead (past r)) c.self.view_is ∙ c.requires.looked) c.self.invariant.0 c.add_frame.ensures,
  knows_still c.self.inside.plan.inputs c.add_frame.new.self.inputs c.self.inside.progress.inputs c.self.inside.known (ap (λ (s : ScriptModel). s.inputs) c.add_frame.ensures) c.self.invariant.1,
)
