use Rattle.std.proofs.Common.{ℕ, List, [], ◌∷◌, ◌++◌, map, length, refl, ap, ◌∙◌, ◌≤◌, arith}
use Rattle.std.specs.Prelude.{insert}
use Rattle.std.proofs.lemmas.List.{length-map}
use Rattle.page_display_list.specs.declared.item.Item.{Item}
use Rattle.page_layers.specs.declared.command.Command.TheVariants as command
use Rattle.page_layers.specs.Layers.{PageLayer, parts_of}
use Rattle.page_layers.specs.Pages.{Page}
use Rattle.page_layers.specs.Effects.{page_after_command}
use Rattle.page_layers.proofs.TestFacts.{add_layer_facts}
use Rattle.page_layers.proofs.KeptPages.{passed_inside, accepted, parted, kept_together}
use Rattle.page_layers.proofs.tree.LayerTree.add_layer.Goals as goal

pub stands_with-requires : goal.stands_with-requires
stands_with-requires c = add_layer_facts c.args.self.now (record { id = c.args.fields.now.id; transform = c.args.fields.now.transform; clip = c.args.fields.now.clip; effect = c.args.fields.now.effect; w = c.args.fields.now.w; h = c.args.fields.now.h; colour = c.args.fields.now.colour; items = [] }) c.args.fields.now.at (passed_inside c.args.self.now c.args.self.now (command.AddLayer c.args.fields.now) refl c.in_ok-may_add_layer.field-0 c.in_ok-may_add_layer.ensures)

pub put_in-requires : goal.put_in-requires
put_in-requires c =
    let inside : Page = record { view = c.self.inside.view; props = c.self.inside.props; layers = map parts_of c.self.inside.layers.items; used = c.self.inside.used.items; values = c.self.inside.values.items } in
    let le : c.args.fields.now.at ≤ length inside.layers = add_layer_facts inside (record { id = c.args.fields.now.id; transform = c.args.fields.now.transform; clip = c.args.fields.now.clip; effect = c.args.fields.now.effect; w = c.args.fields.now.w; h = c.args.fields.now.h; colour = c.args.fields.now.colour; items = [] }) c.args.fields.now.at (passed_inside inside c.args.self.now (command.AddLayer c.args.fields.now) c.self.view_is c.in_ok-may_add_layer.field-0 c.in_ok-may_add_layer.ensures) in
    omega (arith, le, length-map c.self.inside.layers.items parts_of)

pub invariant_of-self-then-together : goal.invariant_of-self-then-together
invariant_of-self-then-together c =
    let inside : Page = record { view = c.self.inside.view; props = c.self.inside.props; layers = map parts_of c.self.inside.layers.items; used = c.self.inside.used.items; values = c.self.inside.values.items } in
    kept_together inside c.args.self.now _ (command.AddLayer c.args.fields.now) c.self.view_is c.self.invariant (let l : PageLayer = (record { id = c.args.fields.now.id; transform = c.args.fields.now.transform; clip = c.args.fields.now.clip; effect = c.args.fields.now.effect; w = c.args.fields.now.w; h = c.args.fields.now.h; colour = c.args.fields.now.colour; items = [] }) in accepted c.args.self.now (command.AddLayer c.args.fields.now) c.in_ok-together.together c.in_ok-may_add_layer.field-0 (c.in_ok-together.ensures l refl) c.if-together.true c.in_ok-may_add_layer.ensures)
    (ap (λ (us : List ℕ). let made : Page = record { view = c.self.inside.view; props = c.self.inside.props; layers = map parts_of c.put_in.new.layers.items; used = us; values = c.self.inside.values.items } in made) (c.in-Ok.ensures.items ∙ ap (λ (us : List ℕ). us ++ c.args.fields.now.id ∷ []) c.in_ok-reserve.ensures.items) ∙ ap (λ (ls : List PageLayer). let made : Page = record { view = c.self.inside.view; props = c.self.inside.props; layers = ls; used = (c.self.inside.used.items ++ c.args.fields.now.id ∷ []); values = c.self.inside.values.items } in made) (c.in_ok-put_in.ensures.ok ∙ ap (λ (items : List Item). let l : PageLayer = record { id = c.args.fields.now.id; transform = c.args.fields.now.transform; clip = c.args.fields.now.clip; effect = c.args.fields.now.effect; w = c.args.fields.now.w; h = c.args.fields.now.h; colour = c.args.fields.now.colour; items = items } in insert (map parts_of c.self.inside.layers.items) c.args.fields.now.at l) c.in_ok-list.ensures))

pub returns-in-Ok : goal.returns-in-Ok
returns-in-Ok c = (
  (let l : PageLayer = (record { id = c.args.fields.now.id; transform = c.args.fields.now.transform; clip = c.args.fields.now.clip; effect = c.args.fields.now.effect; w = c.args.fields.now.w; h = c.args.fields.now.h; colour = c.args.fields.now.colour; items = [] }) in accepted c.args.self.now (command.AddLayer c.args.fields.now) c.in_ok-together.together c.in_ok-may_add_layer.field-0 (c.in_ok-together.ensures l refl) c.if-together.true c.in_ok-may_add_layer.ensures),
  ap (λ (us : List ℕ). let made : Page = record { view = c.self.inside.view; props = c.self.inside.props; layers = map parts_of c.put_in.new.layers.items; used = us; values = c.self.inside.values.items } in made) (c.in-Ok.ensures.items ∙ ap (λ (us : List ℕ). us ++ c.args.fields.now.id ∷ []) c.in_ok-reserve.ensures.items) ∙ ap (λ (ls : List PageLayer). let made : Page = record { view = c.self.inside.view; props = c.self.inside.props; layers = ls; used = (c.self.inside.used.items ++ c.args.fields.now.id ∷ []); values = c.self.inside.values.items } in made) (c.in_ok-put_in.ensures.ok ∙ ap (λ (items : List Item). let l : PageLayer = record { id = c.args.fields.now.id; transform = c.args.fields.now.transform; clip = c.args.fields.now.clip; effect = c.args.fields.now.effect; w = c.args.fields.now.w; h = c.args.fields.now.h; colour = c.args.fields.now.colour; items = items } in insert (map parts_of c.self.inside.layers.items) c.args.fields.now.at l) c.in_ok-list.ensures) ∙ ap (λ (p : Page). page_after_command p (command.AddLayer c.args.fields.now)) c.self.view_is,
  c.in_ok-changes.ensures,
)

pub returns-else-together : goal.returns-else-together
returns-else-together c = (let l : PageLayer = (record { id = c.args.fields.now.id; transform = c.args.fields.now.transform; clip = c.args.fields.now.clip; effect = c.args.fields.now.effect; w = c.args.fields.now.w; h = c.args.fields.now.h; colour = c.args.fields.now.colour; items = [] }) in parted c.args.self.now (command.AddLayer c.args.fields.now) c.in_ok-together.together c.in_ok-may_add_layer.field-0 (c.in_ok-together.ensures l refl) c.if-together.false c.in_ok-may_add_layer.ensures, refl)
