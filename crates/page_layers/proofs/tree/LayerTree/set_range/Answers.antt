use Rattle.std.proofs.Common.{ℕ, List, map, refl, sym, ap, ◌∙◌, false, None, subst}
use Rattle.geom.specs.declared.rect.Point.{Point}
use Rattle.region.specs.Lists.{Changed}
use Rattle.page_properties.specs.Trees.{Trees}
use Rattle.page_properties.specs.Entries as entries
use Rattle.page_layers.specs.declared.command.Command.TheVariants as command
use Rattle.page_layers.specs.Layers.{parts_of}
use Rattle.page_layers.specs.Pages.{Page}
use Rattle.page_layers.specs.Effects.{page_after_command}
use Rattle.page_layers.specs.Outcomes.{ListsChange}
use Rattle.page_layers.proofs.TestFacts.{set_range_facts}
use Rattle.page_layers.proofs.NodeKeeps.{range_values, within_range}
use Rattle.page_layers.proofs.KeptPages.{kept, passed_inside}
use Rattle.page_layers.proofs.tree.LayerTree.set_range.Goals as goal

pub value_within-at-requires-clause-across : goal.value_within-at-requires-clause-across
value_within-at-requires-clause-across c =
    let inside : Page = record { view = c.self.inside.view; props = c.self.inside.props; layers = map parts_of c.self.inside.layers.items; used = c.self.inside.used.items; values = c.self.inside.values.items } in
    (set_range_facts inside c.args.fields.now.id c.args.fields.now.max_x c.args.fields.now.max_y (passed_inside inside c.args.self.now (command.SetRange c.args.fields.now) c.self.view_is c.in_ok-may_set_range.field-0 c.in_ok-may_set_range.ensures)).1

pub value_within-at-requires-clause-down : goal.value_within-at-requires-clause-down
value_within-at-requires-clause-down c =
    let inside : Page = record { view = c.self.inside.view; props = c.self.inside.props; layers = map parts_of c.self.inside.layers.items; used = c.self.inside.used.items; values = c.self.inside.values.items } in
    (set_range_facts inside c.args.fields.now.id c.args.fields.now.max_x c.args.fields.now.max_y (passed_inside inside c.args.self.now (command.SetRange c.args.fields.now) c.self.view_is c.in_ok-may_set_range.field-0 c.in_ok-may_set_range.ensures)).2

pub set_range-requires-clause-known : goal.set_range-requires-clause-known
set_range-requires-clause-known c =
    let inside : Page = record { view = c.self.inside.view; props = c.self.inside.props; layers = map parts_of c.self.inside.layers.items; used = c.self.inside.used.items; values = c.self.inside.values.items } in
    (set_range_facts inside c.args.fields.now.id c.args.fields.now.max_x c.args.fields.now.max_y (passed_inside inside c.args.self.now (command.SetRange c.args.fields.now) c.self.view_is c.in_ok-may_set_range.field-0 c.in_ok-may_set_range.ensures)).0

pub set_range-requires-clause-across : goal.set_range-requires-clause-across
set_range-requires-clause-across c =
    let inside : Page = record { view = c.self.inside.view; props = c.self.inside.props; layers = map parts_of c.self.inside.layers.items; used = c.self.inside.used.items; values = c.self.inside.values.items } in
    (set_range_facts inside c.args.fields.now.id c.args.fields.now.max_x c.args.fields.now.max_y (passed_inside inside c.args.self.now (command.SetRange c.args.fields.now) c.self.view_is c.in_ok-may_set_range.field-0 c.in_ok-may_set_range.ensures)).1

pub set_range-requires-clause-down : goal.set_range-requires-clause-down
set_range-requires-clause-down c =
    let inside : Page = record { view = c.self.inside.view; props = c.self.inside.props; layers = map parts_of c.self.inside.layers.items; used = c.self.inside.used.items; values = c.self.inside.values.items } in
    (set_range_facts inside c.args.fields.now.id c.args.fields.now.max_x c.args.fields.now.max_y (passed_inside inside c.args.self.now (command.SetRange c.args.fields.now) c.self.view_is c.in_ok-may_set_range.field-0 c.in_ok-may_set_range.ensures)).2

pub invariant_of-self : goal.invariant_of-self
invariant_of-self c =
    let inside : Page = record { view = c.self.inside.view; props = c.self.inside.props; layers = map parts_of c.self.inside.layers.items; used = c.self.inside.used.items; values = c.self.inside.values.items } in
    kept inside c.args.self.now _ (command.SetRange c.args.fields.now) refl c.self.view_is c.self.invariant c.in_ok-may_set_range.field-0 c.in_ok-may_set_range.ensures
    (ap (λ (t : Trees). let made : Page = record { view = c.self.inside.view; props = t; layers = map parts_of c.self.inside.layers.items; used = c.self.inside.used.items; values = c.set_value.new.values.items } in made) c.set_range.ensures ∙ ap (λ (vs : List (ℕ × Point)). let made : Page = record { view = c.self.inside.view; props = (record c.self.inside.props { scrollers = entries.with_node_changed c.args.fields.now.id (λ n. record n { max_x = c.args.fields.now.max_x; max_y = c.args.fields.now.max_y }) c.self.inside.props.scrollers }); layers = map parts_of c.self.inside.layers.items; used = c.self.inside.used.items; values = vs } in made) (range_values c.args.fields.now.id c.args.fields.now.max_x c.args.fields.now.max_y c.self.inside.props.scrollers c.self.inside.values.items c.set_value.new.values.items c.value_within-at.result (set_range_facts inside c.args.fields.now.id c.args.fields.now.max_x c.args.fields.now.max_y (passed_inside inside c.args.self.now (command.SetRange c.args.fields.now) c.self.view_is c.in_ok-may_set_range.field-0 c.in_ok-may_set_range.ensures)).0 c.set_value.ensures (c.value_within-at.ensures ∙ ap (λ (vs : List (ℕ × Point)). within_range c.args.fields.now.max_x c.args.fields.now.max_y (entries.find c.args.fields.now.id vs)) c.as_slice-values.ensures.value)))

pub returns : goal.returns
returns c =
    let inside : Page = record { view = c.self.inside.view; props = c.self.inside.props; layers = map parts_of c.self.inside.layers.items; used = c.self.inside.used.items; values = c.self.inside.values.items } in (
      passed_inside c.args.self.now c.args.self.now (command.SetRange c.args.fields.now) refl c.in_ok-may_set_range.field-0 c.in_ok-may_set_range.ensures,
      ap (λ (t : Trees). let made : Page = record { view = c.self.inside.view; props = t; layers = map parts_of c.self.inside.layers.items; used = c.self.inside.used.items; values = c.set_value.new.values.items } in made) c.set_range.ensures ∙ ap (λ (vs : List (ℕ × Point)). let made : Page = record { view = c.self.inside.view; props = (record c.self.inside.props { scrollers = entries.with_node_changed c.args.fields.now.id (λ n. record n { max_x = c.args.fields.now.max_x; max_y = c.args.fields.now.max_y }) c.self.inside.props.scrollers }); layers = map parts_of c.self.inside.layers.items; used = c.self.inside.used.items; values = vs } in made) (range_values c.args.fields.now.id c.args.fields.now.max_x c.args.fields.now.max_y c.self.inside.props.scrollers c.self.inside.values.items c.set_value.new.values.items c.value_within-at.result (set_range_facts inside c.args.fields.now.id c.args.fields.now.max_x c.args.fields.now.max_y (passed_inside inside c.args.self.now (command.SetRange c.args.fields.now) c.self.view_is c.in_ok-may_set_range.field-0 c.in_ok-may_set_range.ensures)).0 c.set_value.ensures (c.value_within-at.ensures ∙ ap (λ (vs : List (ℕ × Point)). within_range c.args.fields.now.max_x c.args.fields.now.max_y (entries.find c.args.fields.now.id vs)) c.as_slice-values.ensures.value)) ∙ ap (λ (p : Page). page_after_command p (command.SetRange c.args.fields.now)) c.self.view_is,
      subst (λ (ch : Changed). ListsChange None false ch) (sym c.unlisted.ensures) (record { holds = tt; retiled = refl }),
    )
