-- The ranks that are kept and the tiles are those of the past.
use Rattle.std.proofs.Common.{not, ◌&&◌, map, filter, sym, ◌∙◌, ap, subst}
use Rattle.std.specs.Prelude.{option_copied}
use Rattle.geom.specs.KeyLists.{has_key}
use Rattle.tile_priority.specs.declared.rank.Rank.{Rank}
use Rattle.tile_priority.specs.Alike.{Alike}
use Rattle.model_history.specs.Scripts.{ScriptModel}
use Rattle.model_history.specs.Legal.{Legal}
use Rattle.model_history.specs.Tiles.{active_tree, pending_tree}
use Rattle.model_history.specs.Ranking.{choice}
use Rattle.model_steps.specs.Choices.{tile_in_both}
use Rattle.impl_ranks.specs.SeenTrees.{IsSeenWhere}
use Rattle.impl_choice.specs.inner.Queued.{AreTilesAt}
use Rattle.impl_choice.proofs.Rebuilding.{each_key_once, stands_for}
use Rattle.recording_judge.specs.inner.Tiles.{store_of}
use Rattle.recording_judge.proofs.QueueFacts.{flies_in}
use Rattle.recording_judge.proofs.queues.rebuilt.Goals as goal

pub rebuild-requires : goal.rebuild-requires
rebuild-requires c =
    let r = c.requires in
    let s = c.args.plan.now in
    let t = c.args.tiles in
    let store = store_of t.flying.now in
    let a = active_tree s r.past in
    let p = pending_tree s r.past in
    let wanted = c.as_slice-3.ensures.value ∙ (c.in_ok-wanted.ensures ∙ (λ i. filter (λ (r : Rank). not (has_key t.ready.now r.key) && not (sym (flies_in t.flying.now r.key) i)) (c.as_slice.ensures.value i))) in
    let ready = c.as_slice-4.ensures.value ∙ (c.in_ok-ready.ensures a p r.seen_active r.seen_pending ∙ ap (map (tile_in_both s a p t.pins.now)) (c.as_slice-2.ensures ∙ c.in_ok-keys.ensures)) in
    each_key_once s r.workers r.past store t.ready.now t.pins.now t.in_flight r.legal r.tiles c.in_ok-ranks.ranks.items c.as_slice-3.result.now c.as_slice-4.result.now wanted ready
    (c.in_ok-ranks.ensures.once a p r.seen_active r.seen_pending)

pub returns : goal.returns
returns c = λ s n h legal is seen_active seen_pending tiles.
    let t = c.args.tiles in
    let store = store_of t.flying.now in
    let wanted = c.as_slice-3.ensures.value ∙ (c.in_ok-wanted.ensures ∙ (λ i. filter (λ (r : Rank). not (has_key t.ready.now r.key) && not (sym (flies_in t.flying.now r.key) i)) (c.as_slice.ensures.value i))) in
    subst
    (λ (z : ScriptModel). Legal z n h → IsSeenWhere (active_tree z h) (option_copied c.args.active) → IsSeenWhere (pending_tree z h) (option_copied c.args.pending)
    → AreTilesAt z h store t.ready.now t.pins.now t.in_flight → Alike c.rebuild.new.self (choice z h))
    is
    (λ l seen_a seen_p held.
    let z = c.args.plan.now in
    let a = active_tree z h in
    let p = pending_tree z h in
    let members = c.in_ok-ranks.ensures.members a p seen_a seen_p in
    let ready = c.as_slice-4.ensures.value ∙ (c.in_ok-ready.ensures a p seen_a seen_p ∙ ap (map (tile_in_both z a p t.pins.now)) (c.as_slice-2.ensures ∙ c.in_ok-keys.ensures)) in
    stands_for z n h store t.ready.now t.pins.now t.in_flight l held c.in_ok-ranks.ranks.items c.as_slice-3.result.now c.as_slice-4.result.now c.budget.result c.rebuild.new.self members wanted ready c.budget.ensures c.in_ok-rebuild.ensures.choice)
    legal seen_active seen_pending tiles
