use Rattle.std.proofs.Common.{List, map, length, refl, sym, ap, ◌∙◌, ◌<◌, arith, false, None, subst}
use Rattle.std.proofs.lemmas.List.{length-map}
use Rattle.region.specs.Lists.{Changed}
use Rattle.page_layers.specs.declared.command.Command.TheVariants as command
use Rattle.page_layers.specs.Layers.{PageLayer, parts_of}
use Rattle.page_layers.specs.Pages.{Page}
use Rattle.page_layers.specs.Effects.{page_after_command}
use Rattle.page_layers.specs.Outcomes.{ListsChange}
use Rattle.page_layers.proofs.TestFacts.{move_layer_facts}
use Rattle.page_layers.proofs.KeptPages.{passed_inside, accepted, parted, kept_together}
use Rattle.page_layers.proofs.tree.LayerTree.move_layer.Goals as goal

pub stands_moved-requires : goal.stands_moved-requires
stands_moved-requires c = move_layer_facts c.args.self.now c.args.fields.now.id c.args.fields.now.at (passed_inside c.args.self.now c.args.self.now (command.MoveLayer c.args.fields.now) refl c.in_ok-may_move_layer.field-0 c.in_ok-may_move_layer.ensures)

pub reorder-requires : goal.reorder-requires
reorder-requires c =
    let inside : Page = record { view = c.self.inside.view; props = c.self.inside.props; layers = map parts_of c.self.inside.layers.items; used = c.self.inside.used.items; values = c.self.inside.values.items } in
    let lt : c.args.fields.now.at < length inside.layers = move_layer_facts inside c.args.fields.now.id c.args.fields.now.at (passed_inside inside c.args.self.now (command.MoveLayer c.args.fields.now) c.self.view_is c.in_ok-may_move_layer.field-0 c.in_ok-may_move_layer.ensures) in
    omega (arith, lt, length-map c.self.inside.layers.items parts_of)

pub invariant_of-self : goal.invariant_of-self
invariant_of-self c =
    let inside : Page = record { view = c.self.inside.view; props = c.self.inside.props; layers = map parts_of c.self.inside.layers.items; used = c.self.inside.used.items; values = c.self.inside.values.items } in
    kept_together inside c.args.self.now _ (command.MoveLayer c.args.fields.now) c.self.view_is c.self.invariant (accepted c.args.self.now (command.MoveLayer c.args.fields.now) c.in_ok-together.together c.in_ok-may_move_layer.field-0 c.in_ok-together.ensures c.if-together.true c.in_ok-may_move_layer.ensures)
    (ap (λ (ls : List PageLayer). let made : Page = record { view = c.self.inside.view; props = c.self.inside.props; layers = ls; used = c.self.inside.used.items; values = c.self.inside.values.items } in made) c.reorder.ensures)

pub returns-then-together : goal.returns-then-together
returns-then-together c = (
  (accepted c.args.self.now (command.MoveLayer c.args.fields.now) c.in_ok-together.together c.in_ok-may_move_layer.field-0 c.in_ok-together.ensures c.if-together.true c.in_ok-may_move_layer.ensures),
  ap (λ (ls : List PageLayer). let made : Page = record { view = c.self.inside.view; props = c.self.inside.props; layers = ls; used = c.self.inside.used.items; values = c.self.inside.values.items } in made) c.reorder.ensures ∙ ap (λ (p : Page). page_after_command p (command.MoveLayer c.args.fields.now)) c.self.view_is,
  subst (λ (ch : Changed). ListsChange None false ch) (sym c.unlisted.ensures) (record { holds = tt; retiled = refl }),
)

pub returns-else-together : goal.returns-else-together
returns-else-together c = (parted c.args.self.now (command.MoveLayer c.args.fields.now) c.in_ok-together.together c.in_ok-may_move_layer.field-0 c.in_ok-together.ensures c.if-together.false c.in_ok-may_move_layer.ensures, refl)
