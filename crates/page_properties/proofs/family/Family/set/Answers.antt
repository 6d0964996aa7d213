-- The place of the id takes the node, which changes no id.
use Rattle.std.proofs.Common.{◌≡◌, ◌∙◌, sym, ap, arith, None, true, is_some}
use Rattle.page_properties.specs.Entries.{find, with_node_changed}
use Rattle.page_properties.specs.inner.Index.{listed_place}
use Rattle.page_properties.proofs.Indexes.{entry_of, set_entry, unknown_entry, distinct_changed, ids_changed}
use Rattle.page_properties.proofs.family.Family.set.Goals as goal

pub index_mut-requires : goal.index_mut-requires
index_mut-requires g c =
    let f = entry_of c.args.id c.self.inside.nodes.items c.self.inside.entries.items c.in-Some.place c.self.invariant.1
    (ap (listed_place c.args.id) (sym c.deref.ensures.value) ∙ (sym c.place_in.ensures ∙ c.in-Some.is)) in
    omega (arith, f.1.inside)

pub invariant_of-self : goal.invariant_of-self
invariant_of-self g c =
    let e = set_entry c.args.id c.args.node.now c.self.inside.nodes.items c.self.inside.entries.items c.in-Some.place c.self.invariant.1
    (ap (listed_place c.args.id) (sym c.deref.ensures.value) ∙ (sym c.place_in.ensures ∙ c.in-Some.is)) in
    rw (e, ids_changed c.args.id (λ _. c.args.node.now) _) (distinct_changed _ _ _ c.self.invariant.0, c.self.invariant.1)

pub returns-in-Some : goal.returns-in-Some
returns-in-Some g c =
    let e = set_entry c.args.id c.args.node.now c.self.inside.nodes.items c.self.inside.entries.items c.in-Some.place c.self.invariant.1
    (ap (listed_place c.args.id) (sym c.deref.ensures.value) ∙ (sym c.place_in.ensures ∙ c.in-Some.is)) in
    e ∙ ap (with_node_changed c.args.id (λ _. c.args.node.now)) c.self.view_is

pub returns-in_default : goal.returns-in_default
returns-in_default g c =
    let e = unknown_entry c.args.id c.self.inside.nodes.items c.self.inside.entries.items c.self.invariant.1
    (ap (listed_place c.args.id) (sym c.deref.ensures.value) ∙ (sym c.place_in.ensures ∙ c.in_default.is)) in
    let f : find c.args.id c.args.self.now ≡ None = ap (find c.args.id) (sym c.self.view_is) ∙ e in
    let t : is_some (find c.args.id c.args.self.now) ≡ true = c.requires in absurd (cc (ap is_some f, t))
