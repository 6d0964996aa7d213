use Rattle.std.proofs.Common.{◌<◌, ◌≤◌, length, map, get_or, arith, ◌∙◌, sym, ap, subst}
use Rattle.std.specs.List.{insert}
use Rattle.std.proofs.lemmas.List.{length-map}
use Rattle.tile_queue.specs.inner.Listing.{Listing}
use Rattle.tile_queue.proofs.Slots.{insert_listing, insert_items, with_room}
use Rattle.tile_queue.proofs.listed.Listed.insert.Goals as goal

pub store-slot-requires-clause-room : goal.store-slot-requires-clause-room
store-slot-requires-clause-room g c =
    let r = subst (λ (z : Listing g.row.T.Denot). length z.items < z.room) (sym c.self.view_is) c.requires.room in
    let n = length-map c.self.inside.order.items (λ i. get_or c.self.inside.slots.items i c.self.inside.nothing) in
    omega arith

pub store-slot-requires-clause-small : goal.store-slot-requires-clause-small
store-slot-requires-clause-small g c =
    let r = subst (λ (z : Listing g.row.T.Denot). length z.items < z.room) (sym c.self.view_is) c.requires.room in
    let n = length-map c.self.inside.order.items (λ i. get_or c.self.inside.slots.items i c.self.inside.nothing) in
    omega arith

pub invariant_of-self : goal.invariant_of-self
invariant_of-self g c =
    let r = subst (λ (z : Listing g.row.T.Denot). length z.items < z.room) (sym c.self.view_is) c.requires.room in
    let p = subst (λ (z : Listing g.row.T.Denot). c.args.at ≤ length z.items) (sym c.self.view_is) c.requires.place in
    let n = length-map c.self.inside.order.items (λ i. get_or c.self.inside.slots.items i c.self.inside.nothing) in
    let l : length c.self.inside.order.items < c.self.inside.room = omega arith in
    insert_listing c.args.x c.self.inside.slots.items c.store-slot.new.slots.items c.self.inside.order.items c.insert.new.self.items c.self.inside.free.items c.store-slot.new.free.items c.store-slot.result c.args.at c.self.inside.room _ _ _ _ _ _
    c.self.invariant c.store-slot.ensures.stored (omega arith) l
    (with_room c.insert.result c.insert.ensures.full c.insert.ensures.items (λ full. omega (arith, full)))
    c.store-slot.ensures.slots_capacity c.insert.ensures.capacity (sym c.store-slot.ensures.free_capacity)

pub returns-clause-items : goal.returns-clause-items
returns-clause-items g c =
    let r = subst (λ (z : Listing g.row.T.Denot). length z.items < z.room) (sym c.self.view_is) c.requires.room in
    let n = length-map c.self.inside.order.items (λ i. get_or c.self.inside.slots.items i c.self.inside.nothing) in
    let l : length c.self.inside.order.items < c.self.inside.room = omega arith in
    let e = with_room c.insert.result c.insert.ensures.full c.insert.ensures.items (λ full. omega (arith, full)) in
    ap (map (λ i. get_or c.store-slot.new.slots.items i c.self.inside.nothing)) e
    ∙ insert_items c.args.x c.self.inside.nothing c.self.inside.slots.items c.store-slot.new.slots.items c.self.inside.order.items c.self.inside.free.items c.store-slot.new.free.items c.store-slot.result c.args.at c.self.inside.room _ _ _ c.self.invariant c.store-slot.ensures.stored
    ∙ ap (λ (z : Listing g.row.T.Denot). insert z.items c.args.at c.args.x) c.self.view_is
