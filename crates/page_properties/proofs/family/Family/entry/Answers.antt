-- A node that stands at the place is the one of its id.
use Rattle.std.proofs.Common.{ℕ, ◌+◌, ◌%◌, slice_get, Some, sym, ◌∙◌, ap}
use Rattle.page_properties.proofs.Indexes.{entry_seen, read_at}
use Rattle.page_properties.proofs.family.Family.entry.Goals as goal

pub returns-in-Some : goal.returns-in-Some
returns-in-Some g c =
    let there = c.in-Some.ensures.lookup.3 in
    let node = c.in-Some.node.now in
    let place : ℕ = (c.args.id + 18446744073709551615) % 18446744073709551616 in
    entry_seen c.args.id c.self.inside.nodes.items c.args.self.now place node c.self.view_is c.self.invariant.0
    (ap (λ l. slice_get l place) (sym c.deref.ensures.value) ∙ (read_at c.deref.result.now place node there.0 ∙ ap Some (sym (there.1 node)))) c.if-node-id.true
