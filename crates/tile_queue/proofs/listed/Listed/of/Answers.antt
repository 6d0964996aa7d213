use Rattle.std.proofs.Common.{◌≡◌, length, map, get_or, arith, ◌∙◌, ap}
use Rattle.tile_queue.specs.inner.Listing.{up_to}
use Rattle.tile_queue.proofs.Slots.{new_listing, all_up_to}
use Rattle.tile_queue.proofs.listed.Listed.of.Goals as goal

pub invariant_of-result : goal.invariant_of-result
invariant_of-result g c =
    let n : c.len.result ≡ length c.args.items.items = omega arith in
    let e : c.in_ok-order.order.items ≡ up_to (length c.args.items.items) = c.in_ok-order.ensures.slots ∙ ap up_to n in
    new_listing c.args.items.items c.in_ok-order.order.items c.in_ok-free.free.items c.args.room _ _ _ e c.in_ok-free.ensures.items (omega arith) (omega arith) (omega arith) (omega (arith, c.in_ok-order.ensures.room)) (omega (arith, c.in_ok-free.ensures.capacity))

pub returns-clause-items : goal.returns-clause-items
returns-clause-items g c =
    let n : c.len.result ≡ length c.args.items.items = omega arith in
    let e : c.in_ok-order.order.items ≡ up_to (length c.args.items.items) = c.in_ok-order.ensures.slots ∙ ap up_to n in
    ap (map (λ i. get_or c.args.items.items i c.args.nothing)) e ∙ all_up_to c.args.items.items c.args.nothing
