use Rattle.std.proofs.Common.{ℕ, List, map, sym, ap, ◌∙◌, ◌≡◌, subst}
use Rattle.geom.specs.declared.rect.Point.{Point}
use Rattle.page_properties.specs.Trees.{Trees}
use Rattle.page_layers.specs.declared.layer.Layer.{Layer}
use Rattle.page_layers.specs.Layers.{PageLayer, parts_of}
use Rattle.page_layers.specs.Pages.{Page}
use Rattle.page_layers.specs.Sound.{IsPage}
use Rattle.page_layers.proofs.tree.LayerTree.copy.Goals as goal

pub invariant_of-result : goal.invariant_of-result
invariant_of-result c =
    let made : (t : Trees) (ls : List PageLayer) (us : List ℕ) (vs : List (ℕ × Point)) → Page = λ t ls us vs. record { view = c.self.inside.view; props = t; layers = ls; used = us; values = vs } in
    let layers_are : map parts_of c.in_ok-layers.layers.items ≡ map parts_of c.self.inside.layers.items = c.in_ok-layers.ensures ∙ ap (λ (ls : List Layer). map parts_of ls) c.as_slice.ensures.value in
    let used_are : c.in_ok-used.used.items ≡ c.self.inside.used.items = c.in_ok-used.ensures.items ∙ c.as_slice-2.ensures.value in
    let values_are : c.in_ok-values.values.items ≡ c.self.inside.values.items = c.in_ok-values.ensures.items ∙ c.as_slice-3.ensures.value in
    subst IsPage (sym
    (ap (λ (t : Trees). made t (map parts_of c.in_ok-layers.layers.items) c.in_ok-used.used.items c.in_ok-values.values.items) c.in_ok-props.ensures
    ∙ ap (λ (ls : List PageLayer). made c.self.inside.props ls c.in_ok-used.used.items c.in_ok-values.values.items) layers_are
    ∙ ap (λ (us : List ℕ). made c.self.inside.props (map parts_of c.self.inside.layers.items) us c.in_ok-values.values.items) used_are
    ∙ ap (λ (vs : List (ℕ × Point)). made c.self.inside.props (map parts_of c.self.inside.layers.items) c.self.inside.used.items vs) values_are))
    c.self.invariant
