use Rattle.std.proofs.Common.{List, map, refl, sym, ap, ◌∙◌, subst}
use Rattle.page_layers.specs.declared.command.Command.TheVariants as command
use Rattle.page_layers.specs.Layers.{PageLayer, parts_of}
use Rattle.page_layers.specs.Pages.{Page}
use Rattle.page_layers.proofs.KeptPages.{kept, passed_inside}
use Rattle.page_layers.proofs.tree.LayerTree.replace_item.Goals as goal
use Rattle.page_layers.proofs.TestFacts.{replace_item_facts}
use Rattle.geom.specs.Covers.{IsSound}
use Rattle.page_display_list.specs.Content.{rect_of_item}
use Rattle.page_display_list.specs.declared.item.Item.{Item}
use Rattle.std.proofs.Common.{set}
use Rattle.page_layers.specs.Lists.{with_first_changed}
use Rattle.page_layers.specs.Layers.{has_id, with_items}

pub inside_both-requires-clause-first : goal.inside_both-requires-clause-first
inside_both-requires-clause-first c =
    let inside : Page = record { view = c.self.inside.view; props = c.self.inside.props; layers = map parts_of c.self.inside.layers.items; used = c.self.inside.used.items; values = c.self.inside.values.items } in
    subst IsSound (sym c.rect.ensures) (replace_item_facts inside c.args.fields.now.layer c.args.fields.now.at c.args.fields.now.item (passed_inside inside c.args.self.now (command.ReplaceItem c.args.fields.now) c.self.view_is c.in_ok-may_replace_item.field-0 (c.in_ok-may_replace_item.ensures c.args.self.now (ap (λ (p : Page). p.layers) (sym c.self.view_is) ∙ ap (map parts_of) (sym c.as_slice-layers.ensures.value))))).1

pub replace-requires-clause-fits : goal.replace-requires-clause-fits
replace-requires-clause-fits c =
    let inside : Page = record { view = c.self.inside.view; props = c.self.inside.props; layers = map parts_of c.self.inside.layers.items; used = c.self.inside.used.items; values = c.self.inside.values.items } in
    (replace_item_facts inside c.args.fields.now.layer c.args.fields.now.at c.args.fields.now.item (passed_inside inside c.args.self.now (command.ReplaceItem c.args.fields.now) c.self.view_is c.in_ok-may_replace_item.field-0 (c.in_ok-may_replace_item.ensures c.args.self.now (ap (λ (p : Page). p.layers) (sym c.self.view_is) ∙ ap (map parts_of) (sym c.as_slice-layers.ensures.value))))).0

pub replace-requires-clause-sound : goal.replace-requires-clause-sound
replace-requires-clause-sound c =
    let inside : Page = record { view = c.self.inside.view; props = c.self.inside.props; layers = map parts_of c.self.inside.layers.items; used = c.self.inside.used.items; values = c.self.inside.values.items } in
    subst (λ (i : Item). IsSound (rect_of_item i)) (sym c.in_ok-copy.ensures) (replace_item_facts inside c.args.fields.now.layer c.args.fields.now.at c.args.fields.now.item (passed_inside inside c.args.self.now (command.ReplaceItem c.args.fields.now) c.self.view_is c.in_ok-may_replace_item.field-0 (c.in_ok-may_replace_item.ensures c.args.self.now (ap (λ (p : Page). p.layers) (sym c.self.view_is) ∙ ap (map parts_of) (sym c.as_slice-layers.ensures.value))))).1

pub invariant_of-self-2 : goal.invariant_of-self-2
invariant_of-self-2 c =
    let inside : Page = record { view = c.self.inside.view; props = c.self.inside.props; layers = map parts_of c.self.inside.layers.items; used = c.self.inside.used.items; values = c.self.inside.values.items } in
    kept inside c.args.self.now _ (command.ReplaceItem c.args.fields.now) refl c.self.view_is c.self.invariant c.in_ok-may_replace_item.field-0 (c.in_ok-may_replace_item.ensures c.args.self.now (ap (λ (p : Page). p.layers) (sym c.self.view_is) ∙ ap (map parts_of) (sym c.as_slice-layers.ensures.value)))
    (ap (λ (ls : List PageLayer). let made : Page = record { view = c.self.inside.view; props = c.self.inside.props; layers = ls; used = c.self.inside.used.items; values = c.self.inside.values.items } in made) (c.in_ok-replace.ensures.ok ∙ ap (λ (i : Item). with_first_changed (has_id c.args.fields.now.layer) (with_items (λ (items : List Item). set items c.args.fields.now.at i)) (map parts_of c.self.inside.layers.items)) c.in_ok-copy.ensures))
