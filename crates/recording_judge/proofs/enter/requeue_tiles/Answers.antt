-- The trees are seen where their scrollers stand.
use Rattle.std.proofs.Common.{◌≡◌, sym, ◌∙◌, ap, subst}
use Rattle.std.specs.Prelude.{option_copied}
use Rattle.model_history.specs.Scripts.{ScriptModel}
use Rattle.model_history.specs.Tiles.{active_tree, pending_tree}
use Rattle.impl_ranks.specs.SeenTrees.{IsSeenWhere}
use Rattle.impl_log.specs.declared.progress.Progress.{Progress}
use Rattle.impl_log.specs.Runs.{past}
use Rattle.recording_judge.specs.inner.Tiles.{QueuesNow}
use Rattle.recording_judge.proofs.StateFacts.{hosts_with, on_ok}
use Rattle.recording_judge.proofs.enter.requeue_tiles.Goals as goal

pub requeue-requires : goal.requeue-requires
requeue-requires c =
    let r = c.args.log.now in
    let s = r.script in
    let h = past r in
    let seen = c.in_ok-seen.ensures.trees s h (hosts_with s h c.args.host.now _ c.requires.hosts c.standing.ensures) in
    let same : c.plan.result.now ≡ s = c.plan.ensures in
    subst (λ (z : ScriptModel). QueuesNow z (option_copied c.as_ref.result) (option_copied c.as_ref-2.result) c.args.tiles.now c.progress-in_flight.result.in_flight) (sym same)
    (record {
      workers = r.workers;
      past = h;
      legal = c.is_legal.ensures.legal;
      holds = c.requires.holds;
      seen_active = subst (IsSeenWhere (active_tree s h)) (sym c.as_ref.ensures.value) seen.active;
      seen_pending = subst (IsSeenWhere (pending_tree s h)) (sym c.as_ref-2.ensures.value) seen.pending;
      as_many = ap (λ (p : Progress). p.in_flight) c.progress-in_flight.ensures;
    })

pub returns-clause-keeps : goal.returns-clause-keeps
returns-clause-keeps c =
    let r = c.args.log.now in
    let s = r.script in
    let h = past r in
    let seen = c.in_ok-seen.ensures.trees s h (hosts_with s h c.args.host.now _ c.requires.hosts c.standing.ensures) in
    on_ok c.requeue.result
    (λ keeps.
    keeps s r.workers h c.is_legal.ensures.legal c.plan.ensures c.requires.holds (subst (IsSeenWhere (active_tree s h)) (sym c.as_ref.ensures.value) seen.active)
    (subst (IsSeenWhere (pending_tree s h)) (sym c.as_ref-2.ensures.value) seen.pending) (ap (λ (p : Progress). p.in_flight) c.progress-in_flight.ensures))
    c.requeue.ensures.keeps
