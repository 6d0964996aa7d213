-- The layers have the keys that the tree has.
use Rattle.std.proofs.Common.{◌≡◌, Bool, not, List, filter, ap, ◌∙◌, subst}
use Rattle.geom.specs.declared.tile.TileKey.{TileKey}
use Rattle.page_layers.specs.Pages.{Page}
use Rattle.page_layers.specs.Sound.{AreDistinctLayers}
use Rattle.page_layers.proofs.KeptPages.{weaken}
use Rattle.impl_ranks.specs.SeenTrees.{SeenLayerModel, SeenTreeModel}
use Rattle.impl_ranks.specs.inner.Lists.{seen_has}
use Rattle.impl_ranks.proofs.SeenLayers.{has_is}
use Rattle.impl_ranks.proofs.tree.SeenTree.lacked.Goals as goal

pub returns : goal.returns
returns c =
    let layers : c.as_slice.result.now ≡ c.args.self.now.layers = c.as_slice.ensures.value ∙ ap (λ (r : SeenTreeModel). r.layers) c.self.view_is in
    weaken c.keys_off.result
    (λ lacked are t is.
    are
    ∙ (ap (λ (vs : List SeenLayerModel). filter (λ q. not (seen_has vs q)) c.as_slice-2.result.now) layers
    ∙ (ap (λ (keys : List TileKey). filter (λ q. not (seen_has c.args.self.now.layers q)) keys) c.as_slice-2.ensures
    ∙ ap (λ (test : TileKey → Bool). filter test c.args.keys.now) (λ i q. not (has_is t c.args.self.now q (subst (λ (p : Page). AreDistinctLayers p.layers) (ap (λ (r : SeenTreeModel). r.page) c.self.view_is ∙ is.page) c.is_page.ensures.distinct) is i)))))
    c.keys_off.ensures
