-- The tiles are those of the history before and after.
use Rattle.std.proofs.Common.{◌∙◌, sym, subst}
use Rattle.model_history.specs.Scripts.{ScriptModel}
use Rattle.impl_log.specs.Runs.{Run, past}
use Rattle.impl_core.specs.inner.Outlooks.{LooksNow}
use Rattle.impl_core.proofs.CoreSteps.{with_tiles}
use Rattle.impl_core.proofs.core_state.Core.refresh_all.Goals as goal

pub look-requires : goal.look-requires
look-requires c =
    let r : Run = c.self.inside.log in
    subst (λ (s : ScriptModel). LooksNow s c.self.inside.host) (sym c.plan.ensures) (record { past = past r; hosts = c.self.invariant.host })

pub invariant_of-self : goal.invariant_of-self
invariant_of-self c =
    let r : Run = c.self.inside.log in
    with_tiles r.script (past r) (record { host = c.self.inside.host; tiles = c.self.inside.tiles; told = c.self.inside.told; prepared = c.self.inside.prepared; required = c.self.inside.required; drawn = c.self.inside.drawn }) c.look.new.tiles c.self.invariant
    (c.look.ensures.same r.script (past r) c.plan.ensures c.self.invariant.host c.self.invariant.tiles)

pub invariant_of-self-2 : goal.invariant_of-self-2
invariant_of-self-2 c =
    let r : Run = c.self.inside.log in
    with_tiles r.script (past r) (record { host = c.self.inside.host; tiles = c.self.inside.tiles; told = c.self.inside.told; prepared = c.self.inside.prepared; required = c.self.inside.required; drawn = c.self.inside.drawn }) c.refresh.new.self c.self.invariant
    (c.refresh.ensures.same r.script r.workers (past r) c.is_legal.ensures.legal
    (c.look.ensures.same r.script (past r) c.plan.ensures c.self.invariant.host c.self.invariant.tiles))
