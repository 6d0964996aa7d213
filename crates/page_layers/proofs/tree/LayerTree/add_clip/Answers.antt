use Rattle.std.proofs.Common.{map, refl, ap}
use Rattle.page_properties.specs.Trees.{Trees}
use Rattle.page_layers.specs.declared.command.Command.TheVariants as command
use Rattle.page_layers.specs.Layers.{parts_of}
use Rattle.page_layers.specs.Pages.{Page}
use Rattle.page_layers.proofs.KeptPages.{kept, passed_inside}
use Rattle.page_layers.proofs.tree.LayerTree.add_clip.Goals as goal
use Rattle.page_layers.proofs.TestFacts.{add_clip_facts}

pub add_clip-requires-clause-joins : goal.add_clip-requires-clause-joins
add_clip-requires-clause-joins c =
    let inside : Page = record { view = c.self.inside.view; props = c.self.inside.props; layers = map parts_of c.self.inside.layers.items; used = c.self.inside.used.items; values = c.self.inside.values.items } in
    (add_clip_facts inside c.args.fields.now.id c.args.fields.now.parent c.args.fields.now.transform c.args.fields.now.rect (passed_inside inside c.args.self.now (command.AddClip c.args.fields.now) c.self.view_is c.in_ok-may_add_clip.field-0 c.in_ok-may_add_clip.ensures)).0

pub add_clip-requires-clause-transform_known : goal.add_clip-requires-clause-transform_known
add_clip-requires-clause-transform_known c =
    let inside : Page = record { view = c.self.inside.view; props = c.self.inside.props; layers = map parts_of c.self.inside.layers.items; used = c.self.inside.used.items; values = c.self.inside.values.items } in
    (add_clip_facts inside c.args.fields.now.id c.args.fields.now.parent c.args.fields.now.transform c.args.fields.now.rect (passed_inside inside c.args.self.now (command.AddClip c.args.fields.now) c.self.view_is c.in_ok-may_add_clip.field-0 c.in_ok-may_add_clip.ensures)).1

pub invariant_of-self-2 : goal.invariant_of-self-2
invariant_of-self-2 c =
    let inside : Page = record { view = c.self.inside.view; props = c.self.inside.props; layers = map parts_of c.self.inside.layers.items; used = c.self.inside.used.items; values = c.self.inside.values.items } in
    kept inside c.args.self.now _ (command.AddClip c.args.fields.now) refl c.self.view_is c.self.invariant c.in_ok-may_add_clip.field-0 c.in_ok-may_add_clip.ensures
    (ap (λ (t : Trees). let made : Page = record { view = c.self.inside.view; props = t; layers = map parts_of c.self.inside.layers.items; used = c.self.inside.used.items; values = c.self.inside.values.items } in made) c.in_ok-add_clip.ensures)
