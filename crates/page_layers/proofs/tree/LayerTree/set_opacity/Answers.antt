use Rattle.std.proofs.Common.{map, refl, ap, ◌≤◌, arith}
use Rattle.page_properties.specs.Trees.{Trees}
use Rattle.page_layers.specs.declared.command.Command.TheVariants as command
use Rattle.page_layers.specs.Layers.{parts_of}
use Rattle.page_layers.specs.Pages.{Page}
use Rattle.page_layers.proofs.KeptPages.{kept, passed_inside}
use Rattle.page_layers.proofs.tree.LayerTree.set_opacity.Goals as goal
use Rattle.page_layers.proofs.TestFacts.{set_opacity_facts}

pub overflow_cast-fields : goal.overflow_cast-fields
overflow_cast-fields c =
    let inside : Page = record { view = c.self.inside.view; props = c.self.inside.props; layers = map parts_of c.self.inside.layers.items; used = c.self.inside.used.items; values = c.self.inside.values.items } in
    let small : c.args.fields.now.opacity ≤ 255 = (set_opacity_facts inside c.args.fields.now.id c.args.fields.now.opacity (passed_inside inside c.args.self.now (command.SetOpacity c.args.fields.now) c.self.view_is c.in_ok-may_set_opacity.field-0 c.in_ok-may_set_opacity.ensures)).1 in omega (arith, small)

pub set_opacity-requires : goal.set_opacity-requires
set_opacity-requires c =
    let inside : Page = record { view = c.self.inside.view; props = c.self.inside.props; layers = map parts_of c.self.inside.layers.items; used = c.self.inside.used.items; values = c.self.inside.values.items } in
    (set_opacity_facts inside c.args.fields.now.id c.args.fields.now.opacity (passed_inside inside c.args.self.now (command.SetOpacity c.args.fields.now) c.self.view_is c.in_ok-may_set_opacity.field-0 c.in_ok-may_set_opacity.ensures)).0

pub invariant_of-self : goal.invariant_of-self
invariant_of-self c =
    let inside : Page = record { view = c.self.inside.view; props = c.self.inside.props; layers = map parts_of c.self.inside.layers.items; used = c.self.inside.used.items; values = c.self.inside.values.items } in
    kept inside c.args.self.now _ (command.SetOpacity c.args.fields.now) refl c.self.view_is c.self.invariant c.in_ok-may_set_opacity.field-0 c.in_ok-may_set_opacity.ensures
    (ap (λ (t : Trees). let made : Page = record { view = c.self.inside.view; props = t; layers = map parts_of c.self.inside.layers.items; used = c.self.inside.used.items; values = c.self.inside.values.items } in made) c.set_opacity.ensures)
