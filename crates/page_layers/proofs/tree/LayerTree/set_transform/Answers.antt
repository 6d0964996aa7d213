use Rattle.std.proofs.Common.{map, refl, ap}
use Rattle.page_properties.specs.Trees.{Trees}
use Rattle.page_layers.specs.declared.command.Command.TheVariants as command
use Rattle.page_layers.specs.Layers.{parts_of}
use Rattle.page_layers.specs.Pages.{Page}
use Rattle.page_layers.proofs.KeptPages.{kept, passed_inside}
use Rattle.page_layers.proofs.tree.LayerTree.set_transform.Goals as goal
use Rattle.page_layers.proofs.TestFacts.{set_transform_facts}
use Rattle.std.proofs.Common.{rules}
use Rattle.std.specs.Prelude.{FitsSigned}
use Rattle.std.proofs.Common.{w32}
use Rattle.std.proofs.lemmas.Int.{to_z-of_z}

pub set_transform-requires-clause-known : goal.set_transform-requires-clause-known
set_transform-requires-clause-known c =
    let inside : Page = record { view = c.self.inside.view; props = c.self.inside.props; layers = map parts_of c.self.inside.layers.items; used = c.self.inside.used.items; values = c.self.inside.values.items } in
    let fits_x : FitsSigned w32 c.args.fields.now.x = search rules in
    let fits_y : FitsSigned w32 c.args.fields.now.y = search rules in
    let ok = c.in_ok-may_set_transform.ensures in
    ((set_transform_facts inside c.args.fields.now.id c.args.fields.now.x c.args.fields.now.y (passed_inside inside c.args.self.now (command.SetTransform c.args.fields.now) c.self.view_is c.in_ok-may_set_transform.field-0 ok)).0)

pub set_transform-requires-clause-across : goal.set_transform-requires-clause-across
set_transform-requires-clause-across c =
    let inside : Page = record { view = c.self.inside.view; props = c.self.inside.props; layers = map parts_of c.self.inside.layers.items; used = c.self.inside.used.items; values = c.self.inside.values.items } in
    let fits_x : FitsSigned w32 c.args.fields.now.x = search rules in
    let fits_y : FitsSigned w32 c.args.fields.now.y = search rules in
    let ok = c.in_ok-may_set_transform.ensures in
    simp to_z-of_z ((set_transform_facts inside c.args.fields.now.id c.args.fields.now.x c.args.fields.now.y (passed_inside inside c.args.self.now (command.SetTransform c.args.fields.now) c.self.view_is c.in_ok-may_set_transform.field-0 ok)).1)

pub set_transform-requires-clause-down : goal.set_transform-requires-clause-down
set_transform-requires-clause-down c =
    let inside : Page = record { view = c.self.inside.view; props = c.self.inside.props; layers = map parts_of c.self.inside.layers.items; used = c.self.inside.used.items; values = c.self.inside.values.items } in
    let fits_x : FitsSigned w32 c.args.fields.now.x = search rules in
    let fits_y : FitsSigned w32 c.args.fields.now.y = search rules in
    let ok = c.in_ok-may_set_transform.ensures in
    simp to_z-of_z ((set_transform_facts inside c.args.fields.now.id c.args.fields.now.x c.args.fields.now.y (passed_inside inside c.args.self.now (command.SetTransform c.args.fields.now) c.self.view_is c.in_ok-may_set_transform.field-0 ok)).2)

pub invariant_of-self : goal.invariant_of-self
invariant_of-self c =
    let inside : Page = record { view = c.self.inside.view; props = c.self.inside.props; layers = map parts_of c.self.inside.layers.items; used = c.self.inside.used.items; values = c.self.inside.values.items } in
    let fits_x : FitsSigned w32 c.args.fields.now.x = search rules in
    let fits_y : FitsSigned w32 c.args.fields.now.y = search rules in
    let ok = c.in_ok-may_set_transform.ensures in
    kept inside c.args.self.now _ (command.SetTransform c.args.fields.now) refl c.self.view_is c.self.invariant c.in_ok-may_set_transform.field-0 ok
    (ap (λ (t : Trees). let made : Page = record { view = c.self.inside.view; props = t; layers = map parts_of c.self.inside.layers.items; used = c.self.inside.used.items; values = c.self.inside.values.items } in made) (simp to_z-of_z at c.set_transform.ensures))
