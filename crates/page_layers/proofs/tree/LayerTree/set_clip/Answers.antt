use Rattle.std.proofs.Common.{map, refl, ap}
use Rattle.page_properties.specs.Trees.{Trees}
use Rattle.page_layers.specs.declared.command.Command.TheVariants as command
use Rattle.page_layers.specs.Layers.{parts_of}
use Rattle.page_layers.specs.Pages.{Page}
use Rattle.page_layers.proofs.KeptPages.{kept, passed_inside}
use Rattle.page_layers.proofs.tree.LayerTree.set_clip.Goals as goal
use Rattle.page_layers.proofs.TestFacts.{set_clip_facts}

pub set_clip-requires-clause-known : goal.set_clip-requires-clause-known
set_clip-requires-clause-known c =
    let inside : Page = record { view = c.self.inside.view; props = c.self.inside.props; layers = map parts_of c.self.inside.layers.items; used = c.self.inside.used.items; values = c.self.inside.values.items } in
    (set_clip_facts inside c.args.fields.now.id c.args.fields.now.rect (passed_inside inside c.args.self.now (command.SetClip c.args.fields.now) c.self.view_is c.in_ok-may_set_clip.field-0 c.in_ok-may_set_clip.ensures)).0

pub set_clip-requires-clause-in_range : goal.set_clip-requires-clause-in_range
set_clip-requires-clause-in_range c =
    let inside : Page = record { view = c.self.inside.view; props = c.self.inside.props; layers = map parts_of c.self.inside.layers.items; used = c.self.inside.used.items; values = c.self.inside.values.items } in
    (set_clip_facts inside c.args.fields.now.id c.args.fields.now.rect (passed_inside inside c.args.self.now (command.SetClip c.args.fields.now) c.self.view_is c.in_ok-may_set_clip.field-0 c.in_ok-may_set_clip.ensures)).1

pub invariant_of-self : goal.invariant_of-self
invariant_of-self c =
    let inside : Page = record { view = c.self.inside.view; props = c.self.inside.props; layers = map parts_of c.self.inside.layers.items; used = c.self.inside.used.items; values = c.self.inside.values.items } in
    kept inside c.args.self.now _ (command.SetClip c.args.fields.now) refl c.self.view_is c.self.invariant c.in_ok-may_set_clip.field-0 c.in_ok-may_set_clip.ensures
    (ap (λ (t : Trees). let made : Page = record { view = c.self.inside.view; props = t; layers = map parts_of c.self.inside.layers.items; used = c.self.inside.used.items; values = c.self.inside.values.items } in made) c.set_clip.ensures)
