-- The index leads to the node of the id.
use Rattle.std.proofs.Common.{◌∙◌, sym, ap, arith}
use Rattle.page_properties.specs.Entries.{find}
use Rattle.page_properties.specs.inner.Index.{listed_place}
use Rattle.page_properties.proofs.Indexes.{entry_of, entry_is, unknown_entry}
use Rattle.page_properties.proofs.family.Family.indexed.Goals as goal

pub index-requires : goal.index-requires
index-requires g c =
    let f = entry_of c.args.id c.self.inside.nodes.items c.self.inside.entries.items c.in-Some.place c.self.invariant.1
    (ap (listed_place c.args.id) (sym c.deref.ensures.value) ∙ (sym c.place_in.ensures ∙ c.in-Some.is)) in
    omega (arith, f.1.inside)

pub returns-in-Some : goal.returns-in-Some
returns-in-Some g c =
    entry_is c.args.id c.self.inside.nodes.items c.args.self.now c.self.inside.entries.items c.in-Some.place c.index.result.now c.self.view_is c.self.invariant.1
    (ap (listed_place c.args.id) (sym c.deref.ensures.value) ∙ (sym c.place_in.ensures ∙ c.in-Some.is)) c.index.ensures

pub returns-in-None : goal.returns-in-None
returns-in-None g c =
    ap (find c.args.id) (sym c.self.view_is)
    ∙ unknown_entry c.args.id c.self.inside.nodes.items c.self.inside.entries.items c.self.invariant.1
    (ap (listed_place c.args.id) (sym c.deref.ensures.value) ∙ (sym c.place_in.ensures ∙ c.in-None.is))
