use Rattle.std.proofs.Common.{ap, sym, ◌∙◌, subst}
use Rattle.model_history.specs.Accepted.{IsPlayable}
use Rattle.model_history.specs.Growth.{with_input, has_looked_ahead}
use Rattle.impl_log.specs.Runs.{Run, past}
use Rattle.impl_core.proofs.GrownCores.{grown_by_input}
use Rattle.impl_core.proofs.core_state.Core.add_input.Goals as goal

pub invariant_of-self : goal.invariant_of-self
invariant_of-self c =
    grown_by_input c.self.inside.log c.add_input.new.self c.args.input (record { host = c.self.inside.host; tiles = c.self.inside.tiles; told = c.self.inside.told; prepared = c.self.inside.prepared; required = c.self.inside.required; drawn = c.self.inside.drawn })
    c.add_input.ensures c.is_legal.ensures.legal (ap (λ (z : Run). has_looked_ahead (past z)) c.self.view_is ∙ c.requires.looked)
    (subst (λ (z : Run). IsPlayable (with_input z.script c.args.input)) (sym c.self.view_is) c.requires.playable) c.self.invariant
