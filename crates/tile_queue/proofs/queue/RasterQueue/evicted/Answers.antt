use Rattle.std.proofs.Common.{◌≡◌, ◌≤◌, ◌+◌, ◌-◌, ◌∙◌, ℕ, length, filter, min, take, map, false, sym, ap, subst, arith}
use Rattle.geom.specs.declared.tile.TileKey.{TileKey}
use Rattle.geom.specs.KeyLists.{has_key}
use Rattle.tile_priority.specs.declared.rank.Rank.{Rank}
use Rattle.tile_priority.specs.Ordered.{In}
use Rattle.tile_priority.specs.Choice.{Choice, used, evictable_key, evicted}
use Rattle.tile_priority.proofs.InOrder.{map_in}
use Rattle.tile_queue.specs.Queues.{rank_key}
use Rattle.tile_queue.specs.inner.Evictables.{key_of, is_worse_than}
use Rattle.tile_queue.specs.inner.Orders.{times, choice_of}
use Rattle.tile_queue.proofs.Changes.{prefix_passes}
use Rattle.tile_queue.proofs.EvictionOrders.{worse_first}
use Rattle.tile_queue.proofs.Forgotten.{one_rank}
use Rattle.tile_queue.proofs.Picking.{evicted_is, given_keys}
use Rattle.tile_queue.proofs.Times.{times_in, times_none}
use Rattle.tile_queue.proofs.RoomFor.{if_ok}
use Rattle.tile_queue.proofs.queue.RasterQueue.evicted.Goals as goal

pub returns-in-None-clause-wanted : goal.returns-in-None-clause-wanted
returns-in-None-clause-wanted c =
    λ r i k. absurd (c.in-None.ensures r (subst (λ (z : Choice). In r z.wanted) (sym c.self.view_is) i) k)

pub returns-in-Some-clause-wanted : goal.returns-in-Some-clause-wanted
returns-in-Some-clause-wanted c =
    if_ok c.worst.result
    (λ keys is r i k.
    let n : ℕ = length (filter (is_worse_than c.in-Some.rank.bin) c.self.inside.evictables.items) in
    let (there, of_key) = c.in-Some.ensures in
    let once : times c.args.key (map rank_key c.self.inside.wanted.items) ≤ 1 = let o = c.self.invariant.once c.args.key in omega arith in
    let same : c.in-Some.rank ≡ r = one_rank c.args.key c.self.inside.wanted.items once c.in-Some.rank r there (subst (λ (z : Choice). In r z.wanted) (sym c.self.view_is) i) of_key k in
    let over : c.over_budget.result ≡ (used (choice_of c.self.inside.wanted.items c.self.inside.staying.items c.self.inside.evictables.items c.self.inside.in_flight c.self.inside.budget) + 1) - c.self.inside.budget =
    subst (λ (z : Choice). c.over_budget.result ≡ (used z + 1) - z.budget) (sym c.self.view_is) c.over_budget.ensures in
    let e = evicted_is c.self.inside.wanted.items c.self.inside.staying.items c.self.inside.evictables.items c.self.inside.in_flight c.self.inside.budget c.self.invariant.all_stay c.self.invariant.worst_first c.in-Some.rank n c.over_budget.result (prefix_passes (is_worse_than c.in-Some.rank.bin) c.self.inside.evictables.items (worse_first c.in-Some.rank.bin c.self.inside.evictables.items c.self.invariant.worst_first)) over in
    let f : keys ≡ map evictable_key (evicted (choice_of c.self.inside.wanted.items c.self.inside.staying.items c.self.inside.evictables.items c.self.inside.in_flight c.self.inside.budget) c.in-Some.rank) =
    is ∙ ap (λ n. map key_of (take n c.self.inside.evictables.items)) c.count_up_to-count.ensures ∙ sym (ap (map evictable_key) e ∙ given_keys (take (min c.over_budget.result n) c.self.inside.evictables.items)) in
    subst (λ (z : Choice). keys ≡ map evictable_key (evicted z r)) c.self.view_is (subst (λ (z : Rank). keys ≡ map evictable_key (evicted (choice_of c.self.inside.wanted.items c.self.inside.staying.items c.self.inside.evictables.items c.self.inside.in_flight c.self.inside.budget) z)) same f))
    c.worst.ensures

pub returns-in-Some-clause-unwanted : goal.returns-in-Some-clause-unwanted
returns-in-Some-clause-unwanted c =
    λ h.
    let (there, of_key) = c.in-Some.ensures in
    let z = times_none c.args.key (map rank_key c.self.inside.wanted.items) (subst (λ (z : Choice). has_key (map rank_key z.wanted) c.args.key ≡ false) (sym c.self.view_is) h) in
    let o = times_in c.args.key (map rank_key c.self.inside.wanted.items) (subst (λ (k : TileKey). In k (map rank_key c.self.inside.wanted.items)) of_key (map_in rank_key c.in-Some.rank c.self.inside.wanted.items there)) in
    absurd (omega arith)
