use Rattle.std.proofs.Common.{ap, sym, ◌∙◌, subst}
use Rattle.model_history.specs.Accepted.{IsPlayable}
use Rattle.model_history.specs.Growth.{with_main_frame, has_looked_ahead}
use Rattle.impl_log.specs.Runs.{Run, past}
use Rattle.impl_core.proofs.GrownCores.{grown_by_main_frame}
use Rattle.impl_core.proofs.core_state.Core.add_frame.Goals as goal

pub invariant_of-self : goal.invariant_of-self
invariant_of-self c =
    grown_by_main_frame c.self.inside.log c.add_frame.new.self (record { host = c.self.inside.host; tiles = c.self.inside.tiles; told = c.self.inside.told; prepared = c.self.inside.prepared; required = c.self.inside.required; drawn = c.self.inside.drawn })
    c.add_frame.ensures c.is_legal.ensures.legal (ap (λ (z : Run). has_looked_ahead (past z)) c.self.view_is ∙ c.requires.looked)
    (subst (λ (z : Run). IsPlayable (with_main_frame z.script)) (sym c.self.view_is) c.requires.playable) c.self.invariant
