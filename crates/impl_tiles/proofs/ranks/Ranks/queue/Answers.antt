-- The lists are those of the choice.
use Rattle.std.proofs.Common.{◌≡◌, ◌-◌, List, length, map, ◌∙◌, sym, ap, subst, arith}
use Rattle.std.specs.FinMap as fin
use Rattle.std.specs.FinSet as set
use Rattle.std.specs.List.Sorted.{IsSorted}
use Rattle.geom.specs.KeyOrder.{key_cmp}
use Rattle.tile_priority.specs.declared.rank.Rank.{Rank}
use Rattle.tile_priority.specs.Alike.{Alike}
use Rattle.tile_priority.specs.Ordered.{SameMembers}
use Rattle.tile_priority.proofs.Members.{same_itself}
use Rattle.impl_tiles.specs.Choices.{tile_among, choice_among}
use Rattle.impl_tiles.proofs.AmongRanks.{missing_ranks, missing_by, each_key_once, none_flies}
use Rattle.impl_tiles.proofs.KeyOrders.{in_order_sorted}
use Rattle.impl_tiles.proofs.RankedKeys.{ordered_members}
use Rattle.impl_tiles.proofs.ReadyKeyLists.{keys_in_order, keys_count}
use Rattle.impl_tiles.proofs.ReadyRanks.{ranks_of, ranks_of_once, tiles_of}
use Rattle.impl_tiles.proofs.ranks.Ranks.queue.Goals as goal

pub overflow_cast-in_flight : goal.overflow_cast-in_flight
overflow_cast-in_flight c =
    let l : c.len.result ≡ fin.len c.args.store.now.ready = c.len.ensures ∙ (ap length c.in_ok-keys.ensures ∙ keys_count c.args.store.now) in
    let u = c.used.ensures in
    omega (arith, l, u)

pub overflow_sub-in_flight : goal.overflow_sub-in_flight
overflow_sub-in_flight c =
    let l : c.len.result ≡ fin.len c.args.store.now.ready = c.len.ensures ∙ (ap length c.in_ok-keys.ensures ∙ keys_count c.args.store.now) in
    let u = c.used.ensures in
    omega (arith, l, u)

pub parted-requires-clause-order : goal.parted-requires-clause-order
parted-requires-clause-order c = subst (IsSorted key_cmp) (sym (c.as_slice.ensures ∙ c.in_ok-keys.ensures)) (in_order_sorted (fin.keys c.args.store.now.ready) (keys_in_order c.args.store.now))

pub parted-requires-clause-none : goal.parted-requires-clause-none
parted-requires-clause-none c = λ e.
    let l : c.len.result ≡ fin.len c.args.store.now.ready = c.len.ensures ∙ (ap length c.in_ok-keys.ensures ∙ keys_count c.args.store.now) in
    let u = c.used.ensures in
    none_flies c.args.store.now (omega (arith, l, u, e))

pub rebuild-requires : goal.rebuild-requires
rebuild-requires c =
    let store = c.args.store.now in
    let pins = c.args.pins.now in
    let rs = c.self.inside.ranks.items in
    let once = c.self.invariant in
    let keys = c.as_slice.ensures ∙ c.in_ok-keys.ensures in
    let w = c.as_slice-5.ensures.value ∙ (c.in_ok-parts.ensures.missing ∙ (missing_by store c.as_slice.result.now c.as_slice-2.result.now keys ∙ ap (missing_ranks store) c.as_slice-2.ensures.value)) in
    let ks = fin.keys store.ready in
    let picked : c.in_ok-parts.parts.ready.items ≡ ranks_of ks rs = c.in_ok-parts.ensures.ready ∙ (λ i. ranks_of (keys i) (c.as_slice-2.ensures.value i)) in
    let members =
    ordered_members c.in_ok-parts.parts.ready.items c.in_key_order-by_key.result.items c.as_slice-3.result.now (ranks_of ks rs) c.in_key_order-by_key.ensures.same c.as_slice-3.ensures.value
    (subst (λ (xs : List Rank). SameMembers xs (ranks_of ks rs)) (sym picked) (same_itself (ranks_of ks rs))) in
    let t = c.as_slice-6.ensures.value ∙ (c.in_ok-ready.ensures (ranks_of ks rs) (ranks_of_once ks rs once) members ∙ (ap (map (tile_among (ranks_of ks rs) pins)) (c.as_slice-4.ensures ∙ c.in_ok-keys.ensures) ∙ tiles_of ks pins rs)) in
    each_key_once store pins rs c.as_slice-5.result.now c.as_slice-6.result.now once w t

pub returns : goal.returns
returns c =
    let store = c.args.store.now in
    let pins = c.args.pins.now in
    let rs = c.self.inside.ranks.items in
    let once = c.self.invariant in
    let keys = c.as_slice.ensures ∙ c.in_ok-keys.ensures in
    let w = c.as_slice-5.ensures.value ∙ (c.in_ok-parts.ensures.missing ∙ (missing_by store c.as_slice.result.now c.as_slice-2.result.now keys ∙ ap (missing_ranks store) c.as_slice-2.ensures.value)) in
    let ks = fin.keys store.ready in
    let picked : c.in_ok-parts.parts.ready.items ≡ ranks_of ks rs = c.in_ok-parts.ensures.ready ∙ (λ i. ranks_of (keys i) (c.as_slice-2.ensures.value i)) in
    let members =
    ordered_members c.in_ok-parts.parts.ready.items c.in_key_order-by_key.result.items c.as_slice-3.result.now (ranks_of ks rs) c.in_key_order-by_key.ensures.same c.as_slice-3.ensures.value
    (subst (λ (xs : List Rank). SameMembers xs (ranks_of ks rs)) (sym picked) (same_itself (ranks_of ks rs))) in
    let t = c.as_slice-6.ensures.value ∙ (c.in_ok-ready.ensures (ranks_of ks rs) (ranks_of_once ks rs once) members ∙ (ap (map (tile_among (ranks_of ks rs) pins)) (c.as_slice-4.ensures ∙ c.in_ok-keys.ensures) ∙ tiles_of ks pins rs)) in
    let l : c.len.result ≡ fin.len store.ready = c.len.ensures ∙ (ap length c.in_ok-keys.ensures ∙ keys_count store) in
    let u = c.used.ensures in
    let f : c.used.result - c.len.result ≡ set.len store.in_flight = omega (arith, l, u) in
    subst (λ r. Alike c.rebuild.new.self (choice_among store pins r)) c.self.view_is
    (subst (Alike c.rebuild.new.self) (λ i. record { wanted = w i; ready = t i; in_flight = f i; budget = c.self.inside.budget }) c.in_ok-rebuild.ensures.choice)
