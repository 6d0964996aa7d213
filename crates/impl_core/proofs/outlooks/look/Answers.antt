-- The trees are seen where the scrollers stand.
use Rattle.std.proofs.Common.{refl, sym, subst}
use Rattle.model_history.specs.Tiles.{active_tree, pending_tree}
use Rattle.impl_ranks.specs.SeenTrees.{IsSeenWhere}
use Rattle.impl_core.proofs.StandingHosts.{as_it_stands}
use Rattle.impl_core.proofs.outlooks.look.Goals as goal

pub reranked-requires : goal.reranked-requires
reranked-requires c =
    let n = c.requires in
    let s = c.args.plan.now in
    let seen = c.in_ok-seen.ensures.trees s n.past (as_it_stands s n.past c.args.host.now c.standing.result.now c.standing.ensures n.hosts) in
    record {
      past = n.past;
      seen_active = subst (IsSeenWhere (active_tree s n.past)) (sym c.as_ref.ensures.value) seen.active;
      seen_pending = subst (IsSeenWhere (pending_tree s n.past)) (sym c.as_ref-2.ensures.value) seen.pending;
    }

pub returns-clause-same : goal.returns-clause-same
returns-clause-same c = λ s h is_s hosts holds.
    let seen = c.in_ok-seen.ensures.trees s h (as_it_stands s h c.args.host.now c.standing.result.now c.standing.ensures hosts) in
    let ranks = c.in_ok-ranks.ensures s h is_s (subst (IsSeenWhere (active_tree s h)) (sym c.as_ref.ensures.value) seen.active) (subst (IsSeenWhere (pending_tree s h)) (sym c.as_ref-2.ensures.value) seen.pending) in
    c.rerank.ensures.ranks s h h holds (record { ready = λ q. refl; in_flight = λ q. refl; pinned = λ q. refl }) ranks
