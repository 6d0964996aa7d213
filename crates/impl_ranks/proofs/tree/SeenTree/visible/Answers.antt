use Rattle.std.proofs.Common.{List, map, ap, ◌∙◌, subst}
use Rattle.std.specs.List.{flat_map}
use Rattle.page_layers.specs.Layers.{PageLayer, parts_of}
use Rattle.page_layers.specs.Pages.{Page}
use Rattle.page_layers.specs.Sound.{AreDistinctLayers}
use Rattle.page_layers.proofs.KeptPages.{weaken}
use Rattle.tile_visible.specs.declared.order.OrderedLayer.{OrderedLayer}
use Rattle.tile_visible.specs.Visible.{by_id}
use Rattle.impl_ranks.specs.SeenTrees.{SeenLayerModel, SeenTreeModel}
use Rattle.impl_ranks.specs.inner.Lists.{visible_at}
use Rattle.impl_ranks.proofs.VisibleKeys.{visible_is}
use Rattle.impl_ranks.proofs.tree.SeenTree.visible.Goals as goal

pub returns : goal.returns
returns c =
    weaken c.visible_keys.result
    (λ keys e t is.
    let page = ap (λ (r : SeenTreeModel). r.page) c.self.view_is ∙ is.page in
    let layers = c.as_slice.ensures.value ∙ ap (λ (r : SeenTreeModel). r.layers) c.self.view_is in
    e
    ∙ ap (λ (vs : List SeenLayerModel). flat_map (visible_at vs) (map (λ (o : OrderedLayer). parts_of o.layer.now) c.as_slice-2.result.now)) layers
    ∙ ap (λ (os : List OrderedLayer). flat_map (visible_at c.args.self.now.layers) (map (λ (o : OrderedLayer). parts_of o.layer.now) os)) c.as_slice-2.ensures.value
    ∙ ap (λ (ls : List PageLayer). flat_map (visible_at c.args.self.now.layers) ls) (c.in_ok-order.ensures.order ∙ ap (λ (ls : List PageLayer). by_id ls) (c.layers-all.ensures ∙ ap (λ (p : Page). p.layers) page))
    ∙ visible_is t c.args.self.now (subst (λ (p : Page). AreDistinctLayers p.layers) page c.is_page.ensures.distinct) is)
    c.visible_keys.ensures
