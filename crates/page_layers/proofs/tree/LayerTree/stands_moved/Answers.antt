use Rattle.std.proofs.Common.{ℕ, List, map, ap, ◌∙◌, ◌↔◌, subst}
use Rattle.std.specs.Prelude.{IsTrue}
use Rattle.page_properties.specs.Nesting.{AreNested}
use Rattle.page_layers.specs.declared.command.Command.TheVariants as command
use Rattle.page_layers.specs.declared.layer.Layer.{Layer}
use Rattle.page_layers.specs.Layers.{PageLayer, parts_of, with_layer_moved}
use Rattle.page_layers.specs.Pages.{Page}
use Rattle.page_layers.proofs.KeptPages.{decided}
use Rattle.page_layers.proofs.tree.LayerTree.stands_moved.Goals as goal

pub returns : goal.returns
returns c =
    let inside : Page = record { view = c.self.inside.view; props = c.self.inside.props; layers = map parts_of c.self.inside.layers.items; used = c.self.inside.used.items; values = c.self.inside.values.items } in
    decided inside c.args.self.now (command.MoveLayer (record { id = c.args.id; at = c.args.at })) c.is_nested-together.result c.in_ok-effects.effects.items c.self.view_is
    (subst (λ (es : List ℕ). IsTrue c.is_nested-together.result ↔ AreNested c.self.inside.props.effects es) c.as_slice-list.ensures.value c.is_nested-together.ensures)
    (c.in_ok-effects.ensures ∙ ap (λ (ls : List Layer). map (λ (l : PageLayer). l.effect) (with_layer_moved c.args.id c.args.at (map parts_of ls))) c.as_slice-layers.ensures.value)
