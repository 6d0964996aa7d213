-- What is ready shows the tree.
use Rattle.std.proofs.Common.{◌≡◌, ◌≤◌, List, length, map, All, ap, sym, ◌∙◌, subst, arith}
use Rattle.std.proofs.lemmas.List.Elements.{All-map}
use Rattle.std.proofs.lemmas.List.{length-map}
use Rattle.std.proofs.lemmas.Simd.{map-map}
use Rattle.page_properties.specs.OffsetMap.{offset_at}
use Rattle.page_properties.specs.Trees.{Trees as Props}
use Rattle.page_layers.specs.declared.paint.Group.{Group}
use Rattle.page_layers.specs.declared.paint.LayerSample.{LayerSample}
use Rattle.page_layers.specs.declared.view.View.{View}
use Rattle.page_layers.specs.Layers.{PageLayer, parts_of}
use Rattle.page_layers.specs.inner.LayerSamples.{HaveOpacities}
use Rattle.page_layers.specs.TreePainting.{groups_in, opacity_in, layer_colour_at}
use Rattle.page_layers.specs.Paintings.{placed_colour}
use Rattle.page_layers.proofs.Placing.{sizes}
use Rattle.page_layers.proofs.SampleColours.{effects_of_lists}
use Rattle.page_layers.proofs.tree_paint.Painting.new.Goals as goal

pub placed_layers-requires-clause-sizes : goal.placed_layers-requires-clause-sizes
placed_layers-requires-clause-sizes c = sizes c.args.tree.now.props c.args.tree.now.used c.layers.result.now c.args.tree.now.layers c.layers.ensures c.is_page.ensures.layers

pub invariant_of-result : goal.invariant_of-result
invariant_of-result c =
    let low : 16 ≤ c.args.tree.now.view.tile = c.is_page.ensures.view.tile_low in
    let same : c.view-tile.result ≡ c.args.tree.now.view = c.view-tile.ensures in
    let tile : c.view-tile.result.tile ≡ c.args.tree.now.view.tile = ap (λ (v : View). v.tile) same in
    let first : length c.in_ok-layers.layers.items ≡ length c.layers.result.now = c.in_ok-layers.ensures.count in
    let second : length c.in_ok-samples.samples.items ≡ length c.layers-2.result.now = c.in_ok-samples.ensures.count in
    let both : length c.layers.result.now ≡ length c.layers-2.result.now =
    sym (length-map c.layers.result.now parts_of) ∙ ap (λ (ls : List PageLayer). length ls) (c.layers.ensures ∙ sym c.layers-2.ensures) ∙ length-map c.layers-2.result.now parts_of in (
      omega (arith, low, tile),
      omega (arith, first, second, both),
      All-map (λ (gs : List Group). length gs ≤ 256) (λ (s : LayerSample). s.groups.items) c.in_ok-samples.samples.items c.in_ok-samples.ensures.few,
    )

pub returns : goal.returns
returns c = record {
  colours = λ x y.
      ap (λ (v : View). map (placed_colour v.tile x y) c.in_ok-layers.layers.items) c.view-tile.ensures
      ∙ c.in_ok-layers.ensures.colours x y
      ∙ sym (map-map (layer_colour_at c.args.tree.now (offset_at c.args.offsets.now) c.args.missing.now x y) parts_of c.layers.result.now)
      ∙ ap (λ (ls : List PageLayer). map (layer_colour_at c.args.tree.now (offset_at c.args.offsets.now) c.args.missing.now x y) ls) c.layers.ensures;
  groups =
      sym (effects_of_lists c.in_ok-samples.samples.items)
      ∙ c.in_ok-samples.ensures.groups
      ∙ sym (map-map (λ (l : PageLayer). groups_in c.props-props.result.now.effects l.effect) parts_of c.layers-2.result.now)
      ∙ ap (λ (ls : List PageLayer). map (λ (l : PageLayer). groups_in c.props-props.result.now.effects l.effect) ls) c.layers-2.ensures
      ∙ ap (λ (t : Props). map (λ (l : PageLayer). groups_in t.effects l.effect) c.args.tree.now.layers) c.props-props.ensures;
  opacities =
      All-map (λ (gs : List Group). All (λ (g : Group). opacity_in c.args.tree.now.props.effects g.effect ≡ g.opacity) gs) (λ (s : LayerSample). s.groups.items) c.in_ok-samples.samples.items
      (subst (λ (t : Props). HaveOpacities (opacity_in t.effects) c.in_ok-samples.samples.items) c.props-props.ensures c.in_ok-samples.ensures.opacities);
}
