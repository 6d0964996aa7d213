use Rattle.std.proofs.Common.{◌≡◌, ◌+◌, List, map, filter, sym, ap, subst, arith, not, vec_capacity}
use Rattle.tile_priority.specs.declared.rank.Rank.{Rank}
use Rattle.tile_priority.specs.Choice.{Choice}
use Rattle.tile_priority.specs.Alike.{Alike, is_of, choice_after_start}
use Rattle.tile_queue.specs.Queues.{rank_key, MayStartWith}
use Rattle.tile_queue.specs.inner.Orders.{times, choice_of}
use Rattle.tile_queue.proofs.Times.{times_filter}
use Rattle.tile_queue.proofs.Changes.{IsStarted, start_all, start_room, gone_are}
use Rattle.tile_queue.proofs.queue.RasterQueue.started.Goals as goal

pub evict-requires-clause-once : goal.evict-requires-clause-once
evict-requires-clause-once c =
    λ q.
    let f = times_filter rank_key q (λ r. not (is_of c.args.key r)) c.self.inside.wanted.items in
    let e : times q (map rank_key c.forget.new.self.items) ≡ times q (map rank_key (filter (λ r. not (is_of c.args.key r)) c.self.inside.wanted.items)) = ap (λ (rs : List Rank). times q (map rank_key rs)) c.forget.ensures.items in
    let o = c.self.invariant.once q in
    omega arith

pub evict-requires-clause-room : goal.evict-requires-clause-room
evict-requires-clause-room c =
    let m : MayStartWith (choice_of c.self.inside.wanted.items c.self.inside.staying.items c.self.inside.evictables.items c.self.inside.in_flight c.self.inside.budget) c.args.key c.args.evicted.now =
    subst (λ (z : Choice). MayStartWith z c.args.key c.args.evicted.now) (sym c.self.view_is) c.requires in
    let g = gone_are c.self.inside.wanted.items c.self.inside.staying.items c.self.inside.evictables.items c.self.inside.in_flight c.self.inside.budget c.self.invariant.all_stay c.self.invariant.worst_first m.rank c.args.evicted.now m.evicted in
    let r = start_room c.self.inside.wanted.items c.forget.new.self.items c.self.inside.staying.items c.self.inside.evictables.items c.self.inside.in_flight _ _ _ c.len.result c.args.key c.args.evicted.now c.self.invariant c.forget.ensures.items g c.len.ensures in
    omega (arith, r, c.forget.ensures.room)

begun : (c : goal.After-self-1) → IsStarted c.self.inside.wanted.items c.self.inside.staying.items c.self.inside.evictables.items c.self.inside.in_flight c.self.inside.budget c.evict.new.wanted.room (vec_capacity c.self.inside.staying) c.evict.new.evictables.room c.args.key c.args.evicted.now c.evict.new.wanted.items c.evict.new.evictables.items
begun c =
    start_all c.self.inside.wanted.items c.forget.new.self.items c.evict.new.wanted.items c.self.inside.staying.items c.self.inside.evictables.items c.evict.new.evictables.items c.self.inside.in_flight c.self.inside.budget
    c.self.inside.wanted.room (vec_capacity c.self.inside.staying) c.self.inside.evictables.room c.evict.new.wanted.room c.evict.new.evictables.room c.len.result c.args.key c.args.evicted.now c.self.invariant (subst (λ (z : Choice). MayStartWith z c.args.key c.args.evicted.now) (sym c.self.view_is) c.requires)
    c.forget.ensures.items c.len.ensures c.evict.ensures.evictables c.evict.ensures.wanted (omega (arith, c.forget.ensures.room, c.evict.ensures.wanted_room)) (omega (arith, c.evict.ensures.evictables_room))

pub invariant_of-self : goal.invariant_of-self
invariant_of-self c = (begun c).queue

pub returns : goal.returns
returns c =
    subst (λ (z : Choice). Alike (choice_of c.evict.new.wanted.items c.self.inside.staying.items c.evict.new.evictables.items (c.self.inside.in_flight + 1) c.self.inside.budget) (choice_after_start z c.args.key c.args.evicted.now)) c.self.view_is (begun c).alike
