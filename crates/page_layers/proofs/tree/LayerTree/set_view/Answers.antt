use Rattle.std.proofs.Common.{map, refl}
use Rattle.page_layers.specs.declared.command.Command.TheVariants as command
use Rattle.page_layers.specs.Layers.{parts_of}
use Rattle.page_layers.specs.Pages.{Page}
use Rattle.page_layers.proofs.KeptPages.{kept}
use Rattle.page_layers.proofs.tree.LayerTree.set_view.Goals as goal

pub invariant_of-self : goal.invariant_of-self
invariant_of-self c =
    let inside : Page = record { view = c.self.inside.view; props = c.self.inside.props; layers = map parts_of c.self.inside.layers.items; used = c.self.inside.used.items; values = c.self.inside.values.items } in
    kept inside c.args.self.now _ (command.SetView c.args.fields.now) refl c.self.view_is c.self.invariant c.in_ok-may_set_view.field-0 c.in_ok-may_set_view.ensures refl
