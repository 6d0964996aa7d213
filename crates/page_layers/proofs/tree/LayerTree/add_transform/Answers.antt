use Rattle.std.proofs.Common.{map, refl, sym, ap, ◌∙◌, subst}
use Rattle.page_properties.specs.Trees.{Trees}
use Rattle.page_layers.specs.declared.command.Command.TheVariants as command
use Rattle.page_layers.specs.Layers.{parts_of}
use Rattle.page_layers.specs.Pages.{Page}
use Rattle.page_layers.proofs.KeptPages.{kept, passed_inside}
use Rattle.page_layers.proofs.tree.LayerTree.add_transform.Goals as goal
use Rattle.page_layers.proofs.TestFacts.{add_transform_facts}
use Rattle.std.proofs.Common.{rules}
use Rattle.std.specs.Prelude.{FitsSigned}
use Rattle.std.proofs.Common.{w32}
use Rattle.std.proofs.lemmas.Int.{to_z-of_z}
use Rattle.std.proofs.Common.{◌≡◌, true, ◌∷◌}
use Rattle.page_properties.specs.declared.nodes.TransformNode.{TransformNode}
use Rattle.page_properties.specs.Entries.{is_known}
use Rattle.page_properties.specs.Trees.{MayJoinTransforms}

pub add_transform-requires-clause-joins : goal.add_transform-requires-clause-joins
add_transform-requires-clause-joins c =
    let inside : Page = record { view = c.self.inside.view; props = c.self.inside.props; layers = map parts_of c.self.inside.layers.items; used = c.self.inside.used.items; values = c.self.inside.values.items } in
    let fits_x : FitsSigned w32 c.args.fields.now.x = search rules in
    let fits_y : FitsSigned w32 c.args.fields.now.y = search rules in
    let ok = c.in_ok-may_add_transform.ensures in
    let node_is = simp to_z-of_z at c.transform_node-node.ensures in subst (λ (n : TransformNode). MayJoinTransforms c.args.fields.now.id n c.self.inside.props.transforms) (sym node_is) (add_transform_facts inside c.args.fields.now.id c.args.fields.now.parent c.args.fields.now.x c.args.fields.now.y c.args.fields.now.scroller (passed_inside inside c.args.self.now (command.AddTransform c.args.fields.now) c.self.view_is c.in_ok-may_add_transform.field-0 ok)).0

pub add_transform-requires-clause-scroller_known : goal.add_transform-requires-clause-scroller_known
add_transform-requires-clause-scroller_known c =
    let inside : Page = record { view = c.self.inside.view; props = c.self.inside.props; layers = map parts_of c.self.inside.layers.items; used = c.self.inside.used.items; values = c.self.inside.values.items } in
    let fits_x : FitsSigned w32 c.args.fields.now.x = search rules in
    let fits_y : FitsSigned w32 c.args.fields.now.y = search rules in
    let ok = c.in_ok-may_add_transform.ensures in
    let node_is = simp to_z-of_z at c.transform_node-node.ensures in subst (λ (n : TransformNode). is_known n.scroller c.self.inside.props.scrollers ≡ true) (sym node_is) (add_transform_facts inside c.args.fields.now.id c.args.fields.now.parent c.args.fields.now.x c.args.fields.now.y c.args.fields.now.scroller (passed_inside inside c.args.self.now (command.AddTransform c.args.fields.now) c.self.view_is c.in_ok-may_add_transform.field-0 ok)).1

pub invariant_of-self-2 : goal.invariant_of-self-2
invariant_of-self-2 c =
    let inside : Page = record { view = c.self.inside.view; props = c.self.inside.props; layers = map parts_of c.self.inside.layers.items; used = c.self.inside.used.items; values = c.self.inside.values.items } in
    let fits_x : FitsSigned w32 c.args.fields.now.x = search rules in
    let fits_y : FitsSigned w32 c.args.fields.now.y = search rules in
    let ok = c.in_ok-may_add_transform.ensures in
    kept inside c.args.self.now _ (command.AddTransform c.args.fields.now) refl c.self.view_is c.self.invariant c.in_ok-may_add_transform.field-0 ok
    (ap (λ (t : Trees). let made : Page = record { view = c.self.inside.view; props = t; layers = map parts_of c.self.inside.layers.items; used = c.self.inside.used.items; values = c.self.inside.values.items } in made) (c.in_ok-add_transform.ensures ∙ ap (λ (n : TransformNode). let more : Trees = record c.self.inside.props { transforms = (c.args.fields.now.id, n) ∷ c.self.inside.props.transforms } in more) (simp to_z-of_z at c.transform_node-node.ensures)))
