use Rattle.std.proofs.Common.{reverse, ap, sym, ◌∙◌, subst}
use Rattle.model_states.specs.Kinds.{is_sent}
use Rattle.model_history.specs.Scripts.{ScriptModel}
use Rattle.model_history.specs.Legal.{sched}
use Rattle.model_history.specs.Accepted.{IsPlayable}
use Rattle.model_history.specs.Growth.{with_commands, has_looked_ahead}
use Rattle.impl_log.specs.Runs.{Run, past}
use Rattle.impl_log.proofs.GrownLogs.{grown_by_commands, knows_still}
use Rattle.impl_log.proofs.log.Log.end_frame.Goals as goal

pub end_frame-requires : goal.end_frame-requires
end_frame-requires c = subst (λ (r : Run). IsPlayable (with_commands r.script c.args.commands.now.items)) (sym c.self.view_is) c.requires.playable

pub invariant_of-self : goal.invariant_of-self
invariant_of-self c = (
  grown_by_commands c.self.inside.plan c.end_frame.new.self c.self.inside.workers (reverse c.self.inside.history.entries) c.self.inside.progress c.self.inside.history.spare c.self.inside.places c.self.inside.history.first
      (ap (λ (r : Run). has_looked_ahead (past r)) c.self.view_is ∙ c.requires.looked) c.self.invariant.0 c.args.commands.now.items c.end_frame.ensures (ap (λ (r : Run). is_sent (sched (past r)).main_state) c.self.view_is ∙ c.requires.sent),
  knows_still c.self.inside.plan.inputs c.end_frame.new.self.inputs c.self.inside.progress.inputs c.self.inside.known (ap (λ (s : ScriptModel). s.inputs) c.end_frame.ensures) c.self.invariant.1,
)
