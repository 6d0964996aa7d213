-- The ranks are those of the trees of the past.
use Rattle.std.proofs.Common.{sym, subst}
use Rattle.std.specs.Prelude.{option_copied}
use Rattle.model_history.specs.Scripts.{ScriptModel}
use Rattle.model_history.specs.Tiles.{active_tree, pending_tree}
use Rattle.impl_ranks.specs.SeenTrees.{IsSeenWhere}
use Rattle.impl_tiles.specs.Managers.{AreRanksAt}
use Rattle.impl_choice.proofs.rebuild.reranked.Goals as goal

pub new-requires : goal.new-requires
new-requires c =
    let r = c.requires in
    let s = c.args.plan.now in
    c.in_ok-ranks.ensures.once (active_tree s r.past) (pending_tree s r.past) r.seen_active r.seen_pending

pub returns : goal.returns
returns c = λ s h is seen_active seen_pending.
    subst
    (λ (z : ScriptModel). IsSeenWhere (active_tree z h) (option_copied c.args.active) → IsSeenWhere (pending_tree z h) (option_copied c.args.pending) → AreRanksAt z h c.new.result)
    is
    (λ seen_a seen_p.
    let z = c.args.plan.now in
    subst (AreRanksAt z h) (sym c.new.ensures) (record { members = c.in_ok-ranks.ensures.members (active_tree z h) (pending_tree z h) seen_a seen_p; budget_is = c.budget.ensures }))
    seen_active seen_pending
