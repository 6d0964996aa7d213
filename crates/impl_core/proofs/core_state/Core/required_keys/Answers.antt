-- The keys are those of the pending tree as it is seen now.
use Rattle.std.proofs.Common.{◌≡◌, sym, subst}
use Rattle.model_history.specs.Tiles.{pending_tree, required}
use Rattle.impl_ranks.specs.SeenTrees.{IsSeenWhere}
use Rattle.impl_log.specs.Runs.{Run, past}
use Rattle.page_layers.proofs.KeptPages.{weaken}
use Rattle.impl_core.proofs.core_state.Core.required_keys.Goals as goal

pub returns : goal.returns
returns c =
    let r : Run = c.self.inside.log in
    weaken c.visible_of.result
    (λ keys are. subst (λ (z : Run). keys ≡ required z.script (past z)) c.self.view_is
    (are (pending_tree r.script (past r)) (subst (IsSeenWhere (pending_tree r.script (past r))) (sym c.as_ref.ensures.value) (c.in_ok-seen.ensures.tree r.script (past r) c.self.invariant.host))))
    c.visible_of.ensures
