use Rattle.std.proofs.Common.{List, map, refl, ap, sym, ◌∙◌}
use Rattle.page_layers.specs.declared.command.Command.TheVariants as command
use Rattle.page_layers.specs.Layers.{PageLayer, parts_of}
use Rattle.page_layers.specs.Pages.{Page}
use Rattle.page_layers.proofs.KeptPages.{kept, passed_inside}
use Rattle.page_layers.proofs.tree.LayerTree.remove_item.Goals as goal
use Rattle.page_layers.proofs.TestFacts.{remove_item_facts}

pub remove-requires-clause-fits : goal.remove-requires-clause-fits
remove-requires-clause-fits c =
    let inside : Page = record { view = c.self.inside.view; props = c.self.inside.props; layers = map parts_of c.self.inside.layers.items; used = c.self.inside.used.items; values = c.self.inside.values.items } in
    remove_item_facts inside c.args.fields.now.layer c.args.fields.now.at (passed_inside inside c.args.self.now (command.RemoveItem c.args.fields.now) c.self.view_is c.in_ok-may_remove_item.field-0 (c.in_ok-may_remove_item.ensures c.args.self.now (ap (λ (p : Page). p.layers) (sym c.self.view_is) ∙ ap (map parts_of) (sym c.as_slice-layers.ensures.value))))

pub invariant_of-self-2 : goal.invariant_of-self-2
invariant_of-self-2 c =
    let inside : Page = record { view = c.self.inside.view; props = c.self.inside.props; layers = map parts_of c.self.inside.layers.items; used = c.self.inside.used.items; values = c.self.inside.values.items } in
    kept inside c.args.self.now _ (command.RemoveItem c.args.fields.now) refl c.self.view_is c.self.invariant c.in_ok-may_remove_item.field-0 (c.in_ok-may_remove_item.ensures c.args.self.now (ap (λ (p : Page). p.layers) (sym c.self.view_is) ∙ ap (map parts_of) (sym c.as_slice-layers.ensures.value)))
    (ap (λ (ls : List PageLayer). let made : Page = record { view = c.self.inside.view; props = c.self.inside.props; layers = ls; used = c.self.inside.used.items; values = c.self.inside.values.items } in made) c.in_ok-remove.ensures.ok)
