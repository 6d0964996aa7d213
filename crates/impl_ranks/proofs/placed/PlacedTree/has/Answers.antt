-- The key is one of the layer of its id.
use Rattle.std.proofs.Common.{◌≡◌, ap, sym, ◌∙◌, subst}
use Rattle.std.specs.Prelude.{IfSome, option_map}
use Rattle.page_properties.specs.OffsetMap.{offset_at}
use Rattle.page_layers.specs.Layers.{parts_of}
use Rattle.page_layers.specs.Pages.{Page}
use Rattle.page_layers.specs.Sound.{AreDistinctLayers}
use Rattle.tile_visible.specs.Visible.{grid_of}
use Rattle.impl_ranks.specs.SeenTrees.{PlacedModel}
use Rattle.impl_ranks.specs.inner.Lists.{has_on}
use Rattle.impl_ranks.specs.inner.Stamped.{stamped}
use Rattle.impl_ranks.proofs.SeenLayers.{has_found}
use Rattle.impl_ranks.proofs.placed.PlacedTree.has.Goals as goal

pub has_stamped-requires-clause-cut : goal.has_stamped-requires-clause-cut
has_stamped-requires-clause-cut c = subst (λ (z : PlacedModel). IfSome c.layer-found.result (λ f. f.1.now.grid ≡ grid_of z.page (parts_of f.0.now))) (sym c.self.view_is) c.layer-found.ensures.cut

pub returns : goal.returns
returns c = λ t is.
    let page = ap (λ (m : PlacedModel). m.page) c.self.view_is ∙ is.page in
    let seen = λ (m : PlacedModel). option_map (λ f. stamped m.page (offset_at m.offsets) (parts_of f.0.now) f.1.now) c.layer-found.result in
    c.has_stamped.ensures
    ∙ ap (λ (m : PlacedModel). has_on (seen m) c.args.key) c.self.view_is
    ∙ has_found t (seen c.args.self.now) c.args.key (subst (λ (p : Page). AreDistinctLayers p.layers) page c.is_page.ensures.distinct) (c.layer-found.ensures.found t is)
