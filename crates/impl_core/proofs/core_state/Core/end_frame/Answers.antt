use Rattle.std.proofs.Common.{ap, sym, ◌∙◌, subst}
use Rattle.model_states.specs.Kinds.{is_sent}
use Rattle.model_history.specs.Accepted.{IsPlayable}
use Rattle.model_history.specs.Growth.{with_commands, has_looked_ahead}
use Rattle.model_history.specs.Legal.{sched}
use Rattle.impl_log.specs.Runs.{Run, past}
use Rattle.impl_core.proofs.GrownCores.{grown_by_commands}
use Rattle.impl_core.proofs.core_state.Core.end_frame.Goals as goal

pub invariant_of-self : goal.invariant_of-self
invariant_of-self c =
    grown_by_commands c.self.inside.log c.end_frame.new.self c.args.commands.now.items (record { host = c.self.inside.host; tiles = c.self.inside.tiles; told = c.self.inside.told; prepared = c.self.inside.prepared; required = c.self.inside.required; drawn = c.self.inside.drawn })
    c.end_frame.ensures c.is_legal.ensures.legal (ap (λ (z : Run). has_looked_ahead (past z)) c.self.view_is ∙ c.requires.looked) (ap (λ (z : Run). is_sent (sched (past z)).main_state) c.self.view_is ∙ c.requires.sent)
    (subst (λ (z : Run). IsPlayable (with_commands z.script c.args.commands.now.items)) (sym c.self.view_is) c.requires.playable) c.self.invariant
