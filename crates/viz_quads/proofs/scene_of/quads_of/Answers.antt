-- The scene of the passes that were built.
use Rattle.std.proofs.Common.{◌≡◌, List, [], ◌∷◌, ◌++◌, map, ap, sym, ◌∙◌, subst}
use Rattle.std.proofs.lemmas.List.{map-append}
use Rattle.page_properties.specs.OffsetMap.{offset_at}
use Rattle.page_properties.specs.Trees.{Trees as Props, AreEffects}
use Rattle.page_layers.specs.declared.view.View.{View}
use Rattle.viz_scene.specs.Views.{QuadView, SceneView, pass_view, passes_view, quads_view}
use Rattle.viz_scene.specs.Pixels.{scene_pixel}
use Rattle.viz_scene.specs.Sound.{IsScene}
use Rattle.viz_quads.specs.ShownTiles.{tile_of}
use Rattle.viz_quads.proofs.Whole.{root_built, scene_shown, is_scene}
use Rattle.viz_quads.proofs.scene_of.quads_of.Goals as goal

pub new-requires : goal.new-requires
new-requires c =
    let p = c.args.tree.now in
    let ts = map tile_of c.args.shown.now in
    let new = passes_view c.quads_from.new.passes.items in
    let root = quads_view c.in_ok-root.root.items in
    let last : passes_view c.push.new.self.items ≡ passes_view c.quads_from.new.passes.items ++ quads_view c.in_ok-root.root.items ∷ [] = ap passes_view c.in_ok-push.ensures.items ∙ map-append pass_view c.quads_from.new.passes.items (record { quads = c.in_ok-root.root } ∷ []) in
    let built = root_built p (offset_at c.args.offsets.now) ts c.is_page.ensures c.requires.right c.as_slice.result.now c.in_ok-parts.parts.items (passes_view c.new-passes.result.items) new root c.as_slice.ensures.value (ap passes_view c.new-passes.ensures.items) c.in_ok-parts.ensures.quads c.in_ok-root.ensures.built in
    subst (λ (v : View). IsScene (record { w = v.w; h = v.h; background = c.args.background; passes = passes_view c.push.new.self.items })) c.requires.view
    (subst (λ (ps : List (List QuadView)). IsScene (record { w = p.view.w; h = p.view.h; background = c.args.background; passes = ps })) (sym last)
    (is_scene p c.in_ok-parts.parts.items new root c.args.background c.is_page.ensures.view built))

pub returns-clause-pixels : goal.returns-clause-pixels
returns-clause-pixels c = λ x y seen.
    let p = c.args.tree.now in
    let ts = map tile_of c.args.shown.now in
    let new = passes_view c.quads_from.new.passes.items in
    let root = quads_view c.in_ok-root.root.items in
    let last : passes_view c.push.new.self.items ≡ passes_view c.quads_from.new.passes.items ++ quads_view c.in_ok-root.root.items ∷ [] = ap passes_view c.in_ok-push.ensures.items ∙ map-append pass_view c.quads_from.new.passes.items (record { quads = c.in_ok-root.root } ∷ []) in
    let built = root_built p (offset_at c.args.offsets.now) ts c.is_page.ensures c.requires.right c.as_slice.result.now c.in_ok-parts.parts.items (passes_view c.new-passes.result.items) new root c.as_slice.ensures.value (ap passes_view c.new-passes.ensures.items) c.in_ok-parts.ensures.quads c.in_ok-root.ensures.built in
    let effects : AreEffects p.props.effects = subst (λ (t : Props). AreEffects t.effects) c.props.ensures c.are_trees.ensures.effects in
    ap (λ (s : SceneView). scene_pixel s x y) (c.new.ensures ∙ ap (λ (ps : List (List QuadView)). record { w = c.args.w; h = c.args.h; background = c.args.background; passes = ps }) last)
    ∙ scene_shown p (offset_at c.args.offsets.now) ts c.is_page.ensures c.requires.right c.in_ok-parts.parts.items new root c.args.background c.args.w c.args.h effects c.in_ok-parts.ensures.groups c.in_ok-parts.ensures.opacities c.in_ok-parts.ensures.quads built x y seen
