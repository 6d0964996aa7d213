use Rattle.std.proofs.Common.{ℕ, List, map, refl, sym, ap, ◌∙◌, ◌≡◌, ◌↔◌, subst}
use Rattle.std.specs.Prelude.{insert, IsTrue}
use Rattle.std.specs.Bool.{Decides}
use Rattle.page_properties.specs.Nesting.{AreNested}
use Rattle.page_layers.specs.declared.layer.Layer.{Layer}
use Rattle.page_layers.specs.Layers.{PageLayer, parts_of}
use Rattle.page_layers.specs.Pages.{Page}
use Rattle.page_layers.proofs.LayerPlaces.{effects_with}
use Rattle.page_layers.proofs.tree.LayerTree.stands_with.Goals as goal

pub returns : goal.returns
returns c = λ l same.
    let inside : Page = record { view = c.self.inside.view; props = c.self.inside.props; layers = map parts_of c.self.inside.layers.items; used = c.self.inside.used.items; values = c.self.inside.values.items } in
    let tells : IsTrue c.is_nested-together.result ↔ AreNested c.self.inside.props.effects c.in_ok-effects.effects.items = subst (λ (es : List ℕ). IsTrue c.is_nested-together.result ↔ AreNested c.self.inside.props.effects es) c.as_slice-list.ensures.value c.is_nested-together.ensures in
    let is : c.in_ok-effects.effects.items ≡ map (λ (k : PageLayer). k.effect) (insert (map parts_of c.self.inside.layers.items) c.args.at l) =
    effects_with c.self.inside.layers.items c.args.at l (map (λ (k : Layer). k.effect) c.self.inside.layers.items) c.in_ok-effects.effects.items refl
    (c.in_ok-effects.ensures ∙ ap (λ (ls : List Layer). insert (map (λ (k : Layer). k.effect) ls) c.args.at c.args.effect) c.as_slice-layers.ensures.value ∙ ap (λ (e : ℕ). insert (map (λ (k : Layer). k.effect) c.self.inside.layers.items) c.args.at e) (sym same)) in
    subst (λ (p : Page). Decides c.is_nested-together.result (AreNested p.props.effects (map (λ (k : PageLayer). k.effect) (insert p.layers c.args.at l)))) c.self.view_is
    (subst (λ (es : List ℕ). Decides c.is_nested-together.result (AreNested c.self.inside.props.effects es)) is tells)
