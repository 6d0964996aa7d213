-- The pending tree is there, and its visible keys are needed.
use Rattle.std.proofs.Common.{sym, ◌∙◌, ap, subst}
use Rattle.std.specs.Prelude.{option_copied}
use Rattle.model_history.specs.Tiles.{pending_tree}
use Rattle.impl_ranks.specs.SeenTrees.{IsSeenWhere}
use Rattle.recording_judge.proofs.HostFacts.{on_ok}
use Rattle.recording_judge.proofs.StateFacts.{hosts_with}
use Rattle.recording_judge.proofs.steps.activate_tiles.Goals as goal

pub returns : goal.returns
returns c =
    on_ok c.activate.result
    (λ holds s n h a k accepted legal hosts before.
    let seen = c.in_ok-seen.ensures.trees s h (hosts_with s h c.args.host.now _ hosts c.standing.ensures) in
    let tree = subst (IsSeenWhere (pending_tree s h)) (sym c.as_ref.ensures.value ∙ ap option_copied c.in-Some.is) seen.pending in
    holds s n h a k c.args.moves.now accepted legal before (c.in_ok-needed.ensures (pending_tree s h) tree) tree)
    c.activate.ensures
