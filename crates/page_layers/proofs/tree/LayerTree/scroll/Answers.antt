use Rattle.std.proofs.Common.{rules}
use Rattle.std.specs.Prelude.{FitsSigned}
use Rattle.std.proofs.Common.{w64}
use Rattle.std.proofs.lemmas.Int.{to_z-of_z}
use Rattle.std.proofs.Common.{ℕ, List, map, sym, ap, ◌∙◌, ◌≡◌, subst, Option, false}
use Rattle.std.specs.Prelude.{is_some}
use Rattle.geom.specs.declared.rect.Point.{Point}
use Rattle.page_properties.specs.declared.nodes.ScrollNode.{ScrollNode}
use Rattle.page_properties.specs.Entries.{with_node_changed, find}
use Rattle.page_layers.specs.Layers.{parts_of}
use Rattle.page_layers.specs.Pages.{Page}
use Rattle.page_layers.specs.Effects.{clamped_in, scrolled_to}
use Rattle.page_layers.specs.Sound.{IsPage}
use Rattle.page_layers.proofs.AfterKeeps.{after-scrolled}
use Rattle.page_layers.proofs.NodeKeeps.{values-in_range, values-known, not_changed}
use Rattle.page_layers.proofs.tree.LayerTree.scroll.Goals as goal

pub clamped-at-requires-clause-across : goal.clamped-at-requires-clause-across
clamped-at-requires-clause-across c = (values-in_range c.args.id c.in-Some.node.now c.self.inside.props.scrollers c.self.inside.values.items c.self.invariant.values (sym c.in-Some.ensures)).0.bounded

pub clamped-at-requires-clause-down : goal.clamped-at-requires-clause-down
clamped-at-requires-clause-down c = (values-in_range c.args.id c.in-Some.node.now c.self.inside.props.scrollers c.self.inside.values.items c.self.invariant.values (sym c.in-Some.ensures)).1.bounded

pub invariant_of-self : goal.invariant_of-self
invariant_of-self c =
    let inside : Page = record { view = c.self.inside.view; props = c.self.inside.props; layers = map parts_of c.self.inside.layers.items; used = c.self.inside.used.items; values = c.self.inside.values.items } in
    let made : (vs : List (ℕ × Point)) → Page = λ vs. record { view = c.self.inside.view; props = c.self.inside.props; layers = map parts_of c.self.inside.layers.items; used = c.self.inside.used.items; values = vs } in
    let fits_x : FitsSigned w64 c.args.x = search rules in
    let fits_y : FitsSigned w64 c.args.y = search rules in
    let at_is : c.clamped-at.result ≡ clamped_in (find c.args.id c.self.inside.props.scrollers) c.args.x c.args.y = (simp to_z-of_z at c.clamped-at.ensures) ∙ ap (λ (o : Option ScrollNode). clamped_in o c.args.x c.args.y) c.in-Some.ensures in
    subst IsPage (sym (ap made (c.set_value.ensures ∙ ap (λ (q : Point). with_node_changed c.args.id (λ (v : Point). q) c.self.inside.values.items) at_is))) (after-scrolled inside c.args.id c.args.x c.args.y c.self.invariant)

pub returns-in-None : goal.returns-in-None
returns-in-None c =
    let inside : Page = record { view = c.self.inside.view; props = c.self.inside.props; layers = map parts_of c.self.inside.layers.items; used = c.self.inside.used.items; values = c.self.inside.values.items } in
    let made : (vs : List (ℕ × Point)) → Page = λ vs. record { view = c.self.inside.view; props = c.self.inside.props; layers = map parts_of c.self.inside.layers.items; used = c.self.inside.used.items; values = vs } in
    let none : is_some (find c.args.id c.self.inside.values.items) ≡ false = values-known c.args.id c.self.inside.props.scrollers c.self.inside.values.items c.self.invariant.values ∙ ap (λ (o : Option ScrollNode). is_some o) (sym c.in-None.ensures) in
    subst (λ (p : Page). p ≡ scrolled_to p c.args.id c.args.x c.args.y) c.self.view_is (ap made (sym (not_changed c.args.id (λ (v : Point). clamped_in (find c.args.id c.self.inside.props.scrollers) c.args.x c.args.y) c.self.inside.values.items none)))
