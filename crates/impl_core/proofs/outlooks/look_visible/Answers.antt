-- The trees are seen where the scrollers stand.
use Rattle.std.proofs.Common.{List, sym, ◌∙◌, ap, subst}
use Rattle.tile_priority.specs.declared.rank.Rank.{Rank}
use Rattle.tile_priority.specs.Tiles.{Tile}
use Rattle.tile_queue.specs.Queues.{EachKeyOnce}
use Rattle.model_history.specs.Scripts.{ScriptModel}
use Rattle.model_history.specs.Tiles.{active_tree, pending_tree}
use Rattle.impl_ranks.specs.SeenTrees.{IsSeenWhere}
use Rattle.impl_tiles.specs.Managers.{AreVisibleAt}
use Rattle.impl_core.proofs.StandingHosts.{as_it_stands}
use Rattle.impl_core.proofs.outlooks.look_visible.Goals as goal

pub foreseen_of-requires : goal.foreseen_of-requires
foreseen_of-requires c =
    let n = c.requires in
    let s = c.args.plan.now in
    let seen = c.in_ok-seen.ensures.trees s n.past (as_it_stands s n.past c.args.host.now c.standing.result.now c.standing.ensures n.hosts) in
    record {
      past = n.past;
      seen_active = subst (IsSeenWhere (active_tree s n.past)) (sym c.as_ref.ensures.value) seen.active;
      seen_pending = subst (IsSeenWhere (pending_tree s n.past)) (sym c.as_ref-2.ensures.value) seen.pending;
    }

pub foresee-requires : goal.foresee-requires
foresee-requires c =
    subst (λ (rs : List Rank). EachKeyOnce rs c.as_slice-2.result.now) (sym c.as_slice.ensures.value)
    (subst (λ (ts : List Tile). EachKeyOnce c.in_ok-all.all.wanted.items ts) (sym c.as_slice-2.ensures.value) c.in_ok-all.ensures.once)

pub returns-clause-same : goal.returns-clause-same
returns-clause-same c = λ s workers h is_s legal hosts holds.
    let seen = c.in_ok-seen.ensures.trees s h (as_it_stands s h c.args.host.now c.standing.result.now c.standing.ensures hosts) in
    let visible : AreVisibleAt s h c.in_ok-all.all.wanted.items c.in_ok-all.all.hidden.items =
    c.in_ok-all.ensures.visible s workers h is_s legal holds (subst (IsSeenWhere (active_tree s h)) (sym c.as_ref.ensures.value) seen.active) (subst (IsSeenWhere (pending_tree s h)) (sym c.as_ref-2.ensures.value) seen.pending) in
    c.foresee.ensures.same s workers h legal (ap (λ (z : ScriptModel). z.budget) (sym is_s) ∙ sym c.budget.ensures) holds
    (subst (λ (rs : List Rank). AreVisibleAt s h rs c.as_slice-2.result.now) (sym c.as_slice.ensures.value)
    (subst (λ (ts : List Tile). AreVisibleAt s h c.in_ok-all.all.wanted.items ts) (sym c.as_slice-2.ensures.value) visible))
