-- The pending tree is seen where its scrollers stand.
use Rattle.std.proofs.Common.{sym, subst}
use Rattle.model_history.specs.Tiles.{pending_tree}
use Rattle.page_layers.proofs.KeptPages.{weaken}
use Rattle.impl_ranks.specs.SeenTrees.{IsSeenWhere}
use Rattle.impl_log.specs.Runs.{past}
use Rattle.recording_judge.proofs.StateFacts.{hosts_with}
use Rattle.recording_judge.proofs.state.State.needed.Goals as goal

pub returns : goal.returns
returns c =
    let r = c.args.self.now.log in
    let seen = c.in_ok-seen.ensures.trees r.script (past r) (hosts_with r.script (past r) c.args.self.now.host _ c.requires.host c.standing.ensures) in
    weaken c.visible_of.result (λ keys is. is (pending_tree r.script (past r)) (subst (IsSeenWhere (pending_tree r.script (past r))) (sym c.as_ref.ensures.value) seen.pending)) c.visible_of.ensures
