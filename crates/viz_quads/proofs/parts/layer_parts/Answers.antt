-- One layer more has its share, and in the end all have.
use Rattle.std.proofs.Common.{◌≡◌, ◌≤◌, Some, List, find, map, take, length, All, ap, sym, ◌∙◌, subst, arith}
use Rattle.std.proofs.lemmas.List.{take_all}
use Rattle.std.proofs.lemmas.List.Elements.{All-push, All-same}
use Rattle.std.proofs.lemmas.Simd.{map-map}
use Rattle.page_properties.specs.OffsetMap.{offset_at}
use Rattle.page_layers.specs.declared.layer.Layer.{Layer}
use Rattle.page_layers.specs.Layers.{PageLayer, parts_of, has_id}
use Rattle.page_layers.specs.TreePainting.{groups_in, opacity_in}
use Rattle.viz_scene.specs.Views.{QuadView}
use Rattle.viz_quads.specs.declared.parts.LayerParts.{LayerParts}
use Rattle.viz_quads.specs.ShownTiles.{tile_of}
use Rattle.viz_quads.specs.inner.LayerQuads.{layer_quads}
use Rattle.viz_quads.specs.inner.Passes.{groups_of, HaveQuads}
use Rattle.viz_quads.proofs.Lists.{alike_more, all_mapped}
use Rattle.viz_quads.proofs.Shares.{have_more}
use Rattle.viz_quads.proofs.PageTiles.{found_each}
use Rattle.viz_quads.proofs.parts.layer_parts.Goals as goal

pub parts_in-requires-clause-there : goal.parts_in-requires-clause-there
parts_in-requires-clause-there c =
    let p = c.args.tree.now in
    let ls = c.layers-layers.result.now in
    let each : All (λ (l : Layer). find (has_id (parts_of l).id) p.layers ≡ Some (parts_of l)) ls =
    all_mapped (λ (l : PageLayer). find (has_id l.id) p.layers ≡ Some l) parts_of ls
    (All-same (λ (l : PageLayer). find (has_id l.id) p.layers ≡ Some l) (map parts_of ls) p.layers c.layers-layers.ensures (found_each p.layers c.is_page.ensures.distinct)) in
    subst (λ (l : Layer). find (has_id (parts_of l).id) p.layers ≡ Some (parts_of l)) (sym c.layer-item.is) (each c.loop-layer.layer-index c.layer-item.result c.loop-layer-test.true)

pub loop-layer-preserved : goal.loop-layer-preserved
loop-layer-preserved c =
    let p = c.args.tree.now in
    let old = c.loop-layer.invariant in
    let new = c.in_ok-parts_in.ensures in
    let made = c.in_ok-push.ensures.items in
    let P : LayerParts → _ = λ l. All (λ g. opacity_in p.props.effects g.effect ≡ g.opacity) l.groups.items in
    record {
      groups = alike_more groups_of (λ (l : Layer). groups_in p.props.effects l.effect) c.loop-layer.parts.items c.push.new.self.items c.in_ok-parts_in.field-0 c.layers-layers.result.now c.loop-layer.layer-index c.layer-item.result made c.loop-layer-test.true c.layer-item.is old.groups new.groups;
      opacities = All-same P c.push.new.self.items _ made (All-push P c.loop-layer.parts.items c.in_ok-parts_in.field-0 old.opacities new.opacities);
      few = All-same (λ (l : LayerParts). length l.groups.items ≤ 256) c.push.new.self.items _ made (All-push (λ (l : LayerParts). length l.groups.items ≤ 256) c.loop-layer.parts.items c.in_ok-parts_in.field-0 old.few new.few);
      quads = have_more (λ (l : Layer). layer_quads p (offset_at c.args.offsets.now) (map tile_of c.args.shown.now) (parts_of l)) c.loop-layer.parts.items c.push.new.self.items c.in_ok-parts_in.field-0 c.layers-layers.result.now c.loop-layer.layer-index c.layer-item.result made c.loop-layer-test.true c.layer-item.is old.quads new.quads;
    }

pub returns-clause-groups : goal.returns-clause-groups
returns-clause-groups c =
    let p = c.args.tree.now in
    let ls = c.layers-layers.result.now in
    c.loop-layer.invariant.groups
    ∙ ap (map (λ (l : Layer). groups_in p.props.effects l.effect)) (take_all c.loop-layer.layer-index ls (omega arith))
    ∙ sym (map-map (λ (l : PageLayer). groups_in p.props.effects l.effect) parts_of ls)
    ∙ ap (map (λ (l : PageLayer). groups_in p.props.effects l.effect)) c.layers-layers.ensures

pub returns-clause-quads : goal.returns-clause-quads
returns-clause-quads c =
    let p = c.args.tree.now in
    let ls = c.layers-layers.result.now in
    let f : PageLayer → List QuadView = layer_quads p (offset_at c.args.offsets.now) (map tile_of c.args.shown.now) in
    let all : map (λ (l : Layer). f (parts_of l)) (take c.loop-layer.layer-index ls) ≡ map f p.layers =
    ap (map (λ (l : Layer). f (parts_of l))) (take_all c.loop-layer.layer-index ls (omega arith))
    ∙ sym (map-map f parts_of ls)
    ∙ ap (map f) c.layers-layers.ensures in
    subst (λ (qss : List (List QuadView)). HaveQuads qss c.loop-layer.parts.items) all c.loop-layer.invariant.quads
