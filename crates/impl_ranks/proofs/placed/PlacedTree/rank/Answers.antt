-- The rank is the one that the layer of its id gives the key.
use Rattle.std.proofs.Common.{◌≡◌, ap, sym, ◌∙◌, subst}
use Rattle.std.specs.Prelude.{IfSome, option_map}
use Rattle.page_properties.specs.OffsetMap.{offset_at}
use Rattle.page_layers.specs.Layers.{parts_of}
use Rattle.page_layers.specs.Pages.{Page}
use Rattle.page_layers.specs.Sound.{AreDistinctLayers}
use Rattle.tile_priority.specs.declared.tile.Borders.{Borders}
use Rattle.model_history.specs.Ranking.{borders}
use Rattle.tile_visible.specs.Visible.{grid_of}
use Rattle.impl_ranks.specs.SeenTrees.{PlacedModel}
use Rattle.impl_ranks.specs.inner.Lists.{rank_on_layer}
use Rattle.impl_ranks.specs.inner.Stamped.{stamped}
use Rattle.impl_ranks.proofs.SeenLayers.{rank_found}
use Rattle.impl_ranks.proofs.placed.PlacedTree.rank.Goals as goal

pub rank_stamped-requires-clause-cut : goal.rank_stamped-requires-clause-cut
rank_stamped-requires-clause-cut c = subst (λ (z : PlacedModel). IfSome c.layer-found.result (λ f. f.1.now.grid ≡ grid_of z.page (parts_of f.0.now))) (sym c.self.view_is) c.layer-found.ensures.cut

pub returns-clause-value : goal.returns-clause-value
returns-clause-value c = λ t is.
    let s = c.args.plan.now in
    let page = ap (λ (m : PlacedModel). m.page) c.self.view_is ∙ is.page in
    let seen = λ (m : PlacedModel). option_map (λ f. stamped m.page (offset_at m.offsets) (parts_of f.0.now) f.1.now) c.layer-found.result in
    c.rank_stamped.ensures
    ∙ ap (λ (m : PlacedModel). rank_on_layer c.borders-borders.result c.args.side (seen m) c.args.key) c.self.view_is
    ∙ ap (λ (b : Borders). rank_on_layer b c.args.side (seen c.args.self.now) c.args.key) c.borders-borders.ensures.value
    ∙ ap (λ (p : Page). rank_on_layer (borders s p) c.args.side (seen c.args.self.now) c.args.key) page
    ∙ rank_found s c.args.side t (seen c.args.self.now) c.args.key (subst (λ (p : Page). AreDistinctLayers p.layers) page c.is_page.ensures.distinct) (c.layer-found.ensures.found t is)
