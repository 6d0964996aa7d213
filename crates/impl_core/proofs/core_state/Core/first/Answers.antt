-- The tiles are those of the history before and after, and it was looked.
use Rattle.std.proofs.Common.{◌∙◌, ap, sym, subst, option_map}
use Rattle.model_history.specs.Scripts.{ScriptModel}
use Rattle.model_history.specs.Ranking.{rank_to_start}
use Rattle.impl_log.specs.Runs.{Run, past}
use Rattle.tile_queue.specs.Queues.{rank_key}
use Rattle.impl_core.specs.inner.Outlooks.{LooksNow}
use Rattle.impl_core.proofs.CoreSteps.{with_tiles}
use Rattle.impl_core.proofs.core_state.Core.first.Goals as goal

pub look_for_next-requires : goal.look_for_next-requires
look_for_next-requires c =
    let r : Run = c.self.inside.log in
    subst (λ (s : ScriptModel). LooksNow s c.self.inside.host) (sym c.plan.ensures) (record { past = past r; hosts = c.self.invariant.host })

pub invariant_of-self : goal.invariant_of-self
invariant_of-self c =
    let r : Run = c.self.inside.log in
    with_tiles r.script (past r) (record { host = c.self.inside.host; tiles = c.self.inside.tiles; told = c.self.inside.told; prepared = c.self.inside.prepared; required = c.self.inside.required; drawn = c.self.inside.drawn }) c.look_for_next.new.tiles c.self.invariant
    (c.look_for_next.ensures.same r.script r.workers (past r) c.plan.ensures c.is_legal.ensures.legal c.self.invariant.host c.self.invariant.tiles)

pub invariant_of-self-2 : goal.invariant_of-self-2
invariant_of-self-2 c =
    let r : Run = c.self.inside.log in
    with_tiles r.script (past r) (record { host = c.self.inside.host; tiles = c.self.inside.tiles; told = c.self.inside.told; prepared = c.self.inside.prepared; required = c.self.inside.required; drawn = c.self.inside.drawn }) c.look_for_next.new.tiles c.self.invariant
    (c.look_for_next.ensures.same r.script r.workers (past r) c.plan.ensures c.is_legal.ensures.legal c.self.invariant.host c.self.invariant.tiles)

pub returns-clause-key : goal.returns-clause-key
returns-clause-key c =
    let r = c.self.inside.log in
    c.next_start.ensures r.script r.workers (past r) c.is_legal.ensures.legal (c.look_for_next.ensures.same r.script r.workers (past r) c.plan.ensures c.is_legal.ensures.legal c.self.invariant.host c.self.invariant.tiles) ∙ ap (λ (z : Run). option_map rank_key (rank_to_start z.script (past z))) c.self.view_is
