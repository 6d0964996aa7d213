use Rattle.std.proofs.Common.{ℕ, List, map, refl, ap, ◌∙◌}
use Rattle.page_properties.specs.Trees.{Trees}
use Rattle.page_layers.specs.declared.command.Command.TheVariants as command
use Rattle.page_layers.specs.Layers.{parts_of}
use Rattle.page_layers.specs.Pages.{Page}
use Rattle.page_layers.proofs.KeptPages.{kept, passed_inside}
use Rattle.page_layers.proofs.tree.LayerTree.add_scroller.Goals as goal
use Rattle.page_layers.proofs.TestFacts.{add_scroller_facts}
use Rattle.std.proofs.Common.{◌∷◌}
use Rattle.geom.specs.declared.rect.Point.{Point}
use Rattle.page_properties.specs.OffsetMap.{origin}

pub add_scroller-requires : goal.add_scroller-requires
add_scroller-requires c =
    let inside : Page = record { view = c.self.inside.view; props = c.self.inside.props; layers = map parts_of c.self.inside.layers.items; used = c.self.inside.used.items; values = c.self.inside.values.items } in
    add_scroller_facts inside c.args.fields.now.id c.args.fields.now.parent c.args.fields.now.max_x c.args.fields.now.max_y (passed_inside inside c.args.self.now (command.AddScroller c.args.fields.now) c.self.view_is c.in_ok-may_add_scroller.field-0 c.in_ok-may_add_scroller.ensures)

pub invariant_of-self-2 : goal.invariant_of-self-2
invariant_of-self-2 c =
    let inside : Page = record { view = c.self.inside.view; props = c.self.inside.props; layers = map parts_of c.self.inside.layers.items; used = c.self.inside.used.items; values = c.self.inside.values.items } in
    kept inside c.args.self.now _ (command.AddScroller c.args.fields.now) refl c.self.view_is c.self.invariant c.in_ok-may_add_scroller.field-0 c.in_ok-may_add_scroller.ensures
    (ap (λ (v : List (ℕ × Point)). let made : Page = record { view = c.self.inside.view; props = c.add_scroller.new.self; layers = map parts_of c.self.inside.layers.items; used = c.self.inside.used.items; values = v } in made) (c.in-Ok.ensures.items ∙ ap (λ (vs : List (ℕ × Point)). (c.args.fields.now.id, origin) ∷ vs) c.in_ok-reserve.ensures.items) ∙ ap (λ (t : Trees). let made : Page = record { view = c.self.inside.view; props = t; layers = map parts_of c.self.inside.layers.items; used = c.self.inside.used.items; values = ((c.args.fields.now.id, origin) ∷ c.self.inside.values.items) } in made) c.in_ok-add_scroller.ensures)
