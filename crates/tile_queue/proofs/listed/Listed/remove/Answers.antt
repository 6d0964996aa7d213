use Rattle.std.proofs.Common.{◌<◌, length, map, get_or, arith, ◌∙◌, sym, ap, subst}
use Rattle.std.specs.List.{remove}
use Rattle.std.proofs.lemmas.List.{length-map}
use Rattle.tile_queue.specs.inner.Listing.{Listing}
use Rattle.tile_queue.proofs.Slots.{remove_map, when_some}
use Rattle.tile_queue.proofs.listed.Listed.remove.Goals as goal

pub returns-clause-items : goal.returns-clause-items
returns-clause-items g c =
    let r = subst (λ (z : Listing g.row.T.Denot). c.args.at < length z.items) (sym c.self.view_is) c.requires in
    let n = length-map c.self.inside.order.items (λ i. get_or c.self.inside.slots.items i c.self.inside.nothing) in
    let e = when_some c.remove.result c.remove.ensures.items (c.remove.ensures.variant.1 (omega arith)) in
    ap (map (λ i. get_or c.self.inside.slots.items i c.self.inside.nothing)) e
    ∙ remove_map (λ i. get_or c.self.inside.slots.items i c.self.inside.nothing) c.self.inside.order.items c.args.at
    ∙ ap (λ (z : Listing g.row.T.Denot). remove z.items c.args.at) c.self.view_is
