-- The layer is found in the tree, and its tiling there is copied.
use Rattle.std.proofs.Common.{◌≡◌, List, length, map, ap, sym, subst, ◌∙◌, ◌<◌}
use Rattle.tile_tiling.specs.Tiles.{Tiled}
use Rattle.page_layers.specs.Layers.{PageLayer, parts_of}
use Rattle.page_layers.specs.Pages.{Page}
use Rattle.page_layers.specs.Sound.{AreDistinctLayers}
use Rattle.page_layers.proofs.KeptPages.{weaken}
use Rattle.impl_host.specs.inner.Steps.{StandsAt}
use Rattle.impl_host.proofs.Pushing.{copy_within, copy_there, copy_is}
use Rattle.impl_host.proofs.making.copy_of.Goals as goal

pub bounds-tilings-place : goal.bounds-tilings-place
bounds-tilings-place c =
    let a = c.args.last.now in
    let ls : List PageLayer = map parts_of c.layers-layers.result.now in
    let distinct : AreDistinctLayers a.page.layers = subst (λ (z : Page). AreDistinctLayers z.layers) c.tree-tree.ensures c.is_page.ensures.distinct in
    let same : ls ≡ a.page.layers = c.layers-layers.ensures ∙ ap (λ (z : Page). z.layers) c.tree-tree.ensures in
    subst (λ (ts : List Tiled). c.in-Some.place < length ts) (sym c.tilings-tilings.ensures)
    (copy_within a c.args.layer c.args.grid c.requires distinct ls same c.in-Some.place (subst (StandsAt c.args.layer ls) c.in-Some.is c.place_of.ensures))

pub unreachable-requires : goal.unreachable-requires
unreachable-requires c =
    let a = c.args.last.now in
    let ls : List PageLayer = map parts_of c.layers-layers.result.now in
    let distinct : AreDistinctLayers a.page.layers = subst (λ (z : Page). AreDistinctLayers z.layers) c.tree-tree.ensures c.is_page.ensures.distinct in
    let same : ls ≡ a.page.layers = c.layers-layers.ensures ∙ ap (λ (z : Page). z.layers) c.tree-tree.ensures in
    copy_there a c.args.layer c.args.grid c.requires distinct ls same (subst (StandsAt c.args.layer ls) c.in-None.is c.place_of.ensures)

pub returns : goal.returns
returns c =
    let a = c.args.last.now in
    let ls : List PageLayer = map parts_of c.layers-layers.result.now in
    let distinct : AreDistinctLayers a.page.layers = subst (λ (z : Page). AreDistinctLayers z.layers) c.tree-tree.ensures c.is_page.ensures.distinct in
    let same : ls ≡ a.page.layers = c.layers-layers.ensures ∙ ap (λ (z : Page). z.layers) c.tree-tree.ensures in
    weaken c.copy.result
    (λ u e. copy_is a c.args.layer c.args.grid c.requires distinct ls same c.in-Some.place c.tilings-tilings.result.now c.index-tilings-place.result u (subst (StandsAt c.args.layer ls) c.in-Some.is c.place_of.ensures) c.tilings-tilings.ensures c.index-tilings-place.is e)
    c.copy.ensures
