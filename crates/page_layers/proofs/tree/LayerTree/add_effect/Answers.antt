use Rattle.std.proofs.Common.{map, refl, ap, ◌≤◌, arith}
use Rattle.page_properties.specs.Trees.{Trees}
use Rattle.page_layers.specs.declared.command.Command.TheVariants as command
use Rattle.page_layers.specs.Layers.{parts_of}
use Rattle.page_layers.specs.Pages.{Page}
use Rattle.page_layers.proofs.KeptPages.{kept, passed_inside}
use Rattle.page_layers.proofs.tree.LayerTree.add_effect.Goals as goal
use Rattle.page_layers.proofs.TestFacts.{add_effect_facts}

pub overflow_cast-opacity : goal.overflow_cast-opacity
overflow_cast-opacity c =
    let inside : Page = record { view = c.self.inside.view; props = c.self.inside.props; layers = map parts_of c.self.inside.layers.items; used = c.self.inside.used.items; values = c.self.inside.values.items } in
    let small : c.args.fields.now.opacity ≤ 255 = (add_effect_facts inside c.args.fields.now.id c.args.fields.now.parent c.args.fields.now.opacity (passed_inside inside c.args.self.now (command.AddEffect c.args.fields.now) c.self.view_is c.in_ok-may_add_effect.field-0 c.in_ok-may_add_effect.ensures)).1 in omega (arith, small)

pub add_effect-requires : goal.add_effect-requires
add_effect-requires c =
    let inside : Page = record { view = c.self.inside.view; props = c.self.inside.props; layers = map parts_of c.self.inside.layers.items; used = c.self.inside.used.items; values = c.self.inside.values.items } in
    (add_effect_facts inside c.args.fields.now.id c.args.fields.now.parent c.args.fields.now.opacity (passed_inside inside c.args.self.now (command.AddEffect c.args.fields.now) c.self.view_is c.in_ok-may_add_effect.field-0 c.in_ok-may_add_effect.ensures)).0

pub invariant_of-self-2 : goal.invariant_of-self-2
invariant_of-self-2 c =
    let inside : Page = record { view = c.self.inside.view; props = c.self.inside.props; layers = map parts_of c.self.inside.layers.items; used = c.self.inside.used.items; values = c.self.inside.values.items } in
    kept inside c.args.self.now _ (command.AddEffect c.args.fields.now) refl c.self.view_is c.self.invariant c.in_ok-may_add_effect.field-0 c.in_ok-may_add_effect.ensures
    (ap (λ (t : Trees). let made : Page = record { view = c.self.inside.view; props = t; layers = map parts_of c.self.inside.layers.items; used = c.self.inside.used.items; values = c.self.inside.values.items } in made) c.in_ok-add_effect.ensures)
