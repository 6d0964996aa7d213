-- The scene of a page shows the direct painting.
use Rattle.std.proofs.Common.{ℕ, ℤ, ◌≡◌, ◌⊎◌, inl, inr, ◌+◌, ◌==◌, Bool, true, false, cond, Some, List, [], ◌∷◌, ◌++◌, length, map, find, All, refl, ap, sym, ◌∙◌, subst, arith}
use Rattle.std.specs.List.{list_any}
use Rattle.std.proofs.lemmas.List.{length-append}
use Rattle.std.proofs.lemmas.List.Elements.{All-head, All-tail, All-same, All-weaker}
use Rattle.geom.specs.declared.rect.Point.{Point}
use Rattle.geom.specs.declared.rect.Rect.{Rect}
use Rattle.geom.specs.declared.tile.TileKey.{TileKey}
use Rattle.geom.specs.Covers.{covers}
use Rattle.geom.specs.Sides.{IsGrid}
use Rattle.pixel.specs.Colours.{Parts, clear}
use Rattle.page_properties.specs.Placement.{draws}
use Rattle.page_properties.specs.Trees.{AreEffects}
use Rattle.page_layers.specs.Layers.{PageLayer, has_id}
use Rattle.page_layers.specs.Pages.{Page, IsView, viewport}
use Rattle.page_layers.specs.Sound.{IsPage}
use Rattle.page_layers.specs.Painting.{Items, folded}
use Rattle.page_layers.specs.TreePainting.{groups_in, opacity_in, layer_colour_at, paint}
use Rattle.page_layers.proofs.SampleColours.{same_items}
use Rattle.tile_visible.specs.Visible.{grid_of}
use Rattle.viz_scene.specs.Views.{QuadView}
use Rattle.viz_scene.specs.Pixels.{quads_over, scene_pixel}
use Rattle.viz_scene.specs.Sound.{AreSound, IsScene}
use Rattle.viz_scene.proofs.Steps.{scene_last, sound_append}
use Rattle.viz_quads.specs.declared.parts.LayerParts.{LayerParts}
use Rattle.viz_quads.specs.ShownTiles.{PageTile, missing_keys, AreShownTiles}
use Rattle.viz_quads.specs.inner.LayerQuads.{layer_quads}
use Rattle.viz_quads.specs.inner.Passes.{groups_of, own_colour, IsLayer, HaveQuads, HaveOpacities, AreBuilt}
use Rattle.viz_quads.proofs.Lists.{both_all}
use Rattle.viz_quads.proofs.Shares.{IsOne, layers_are, colours_are}
use Rattle.viz_quads.proofs.LayerActs.{shown_colour, layer_as_one, layer_shows}
use Rattle.viz_quads.proofs.TileFits.{layer_fits}
use Rattle.viz_quads.proofs.PageTiles.{found_each, grids_sound}
use Rattle.viz_quads.proofs.Unseen.{unseen}
use Rattle.viz_quads.proofs.Alike.{AreAlike, alike_painted}

module _ (p : Page) (offset : ℕ → Point) (ts : List PageTile) (page : IsPage p) (right : AreShownTiles p offset ts) where
  -- each layer is found by its id, and its grid is sound
  IsFound : PageLayer → Type 0
  IsFound l = (find (has_id l.id) p.layers ≡ Some l) × IsGrid (grid_of p l)

  each_found : All IsFound p.layers
  unfolding IsFound
  each_found = both_all (λ l. find (has_id l.id) p.layers ≡ Some l) (λ l. IsGrid (grid_of p l)) p.layers (found_each p.layers page.distinct) (grids_sound p page)

  -- ---- the layers act as one

  one_each : All (λ l. IsOne p.view.w p.view.h (viewport p) (layer_quads p offset ts l)) p.layers
  unfolding IsFound
  one_each = All-weaker IsFound (λ l. IsOne p.view.w p.view.h (viewport p) (layer_quads p offset ts l)) (λ l f. (layer_as_one p offset ts l right page.distinct f.0 f.1, layer_fits p offset ts l right page.distinct f.0)) p.layers each_found

  pub layers_of : (parts : List LayerParts) → HaveQuads (map (layer_quads p offset ts) p.layers) parts → All (IsLayer p.view.w p.view.h (viewport p)) parts
  layers_of parts quads = layers_are p.view.w p.view.h (viewport p) (layer_quads p offset ts) p.layers parts one_each quads

  -- what was built of the layers, from no pass on
  pub root_built : (slice parts : List LayerParts) (old new : List (List QuadView)) (root : List QuadView) → slice ≡ parts → old ≡ [] → HaveQuads (map (layer_quads p offset ts) p.layers) parts
      → ((w h : ℕ) (view : Rect) → All (IsLayer w h view) slice → AreBuilt w h view 0 slice old new root) → AreBuilt p.view.w p.view.h (viewport p) 0 parts [] new root
  root_built slice parts old new root same none quads make =
      subst (λ (ls : List LayerParts). AreBuilt p.view.w p.view.h (viewport p) 0 ls [] new root) same
      (subst (λ (ps : List (List QuadView)). AreBuilt p.view.w p.view.h (viewport p) 0 slice ps new root) none
      (make p.view.w p.view.h (viewport p) (All-same (IsLayer p.view.w p.view.h (viewport p)) slice parts same (layers_of parts quads))))

  -- ---- their colours

  map_where : {A B : Type 0} (f g : A → B) (xs : List A) → All (λ x. f x ≡ g x) xs → map f xs ≡ map g xs
  map_where f g [] h = refl
  map_where {A} {B} f g (x ∷ xs) h = ap (λ (y : B). y ∷ map f xs) (All-head (λ x. f x ≡ g x) x xs h) ∙ ap (λ (ys : List B). g x ∷ ys) (map_where f g xs (All-tail (λ x. f x ≡ g x) x xs h))

  pub own_colours : (parts : List LayerParts) (x y : ℤ) → HaveQuads (map (layer_quads p offset ts) p.layers) parts → covers (viewport p) x y ≡ true
      → map (own_colour x y) parts ≡ map (shown_colour p offset (missing_keys ts) x y) p.layers
  unfolding IsFound
  own_colours parts x y quads seen =
      colours_are p.view.w p.view.h (viewport p) (layer_quads p offset ts) x y p.layers parts one_each quads
      ∙ map_where (λ l. quads_over [] x y clear (layer_quads p offset ts l)) (shown_colour p offset (missing_keys ts) x y) p.layers
      (All-weaker IsFound (λ l. quads_over [] x y clear (layer_quads p offset ts l) ≡ shown_colour p offset (missing_keys ts) x y l) (λ l f. layer_shows p offset ts l right page.distinct f.0 x y f.1 seen) p.layers each_found)

  -- ---- a layer that is not drawn makes no difference

  alike_layers : (missing : List TileKey) (x y : ℤ) → AreEffects p.props.effects → (ls : List PageLayer)
      → AreAlike (opacity_in p.props.effects) (λ l. groups_in p.props.effects l.effect) (shown_colour p offset missing x y) (layer_colour_at p offset missing x y) ls
  alike_layers missing x y effects [] = tt
  alike_layers missing x y effects (l ∷ ls) = (one (draws p.props.effects l.effect) refl, alike_layers missing x y effects ls)
    where
      one : (b : Bool) → draws p.props.effects l.effect ≡ b → (cond b (layer_colour_at p offset missing x y l) clear ≡ layer_colour_at p offset missing x y l) ⊎ (list_any (λ e. opacity_in p.props.effects e == 0) (groups_in p.props.effects l.effect) ≡ true)
      one true drawn = inl refl
      one false hidden = inr (unseen p.props.effects effects l.effect hidden)

  -- ---- the scene

  pub scene_shown : (parts : List LayerParts) (passes : List (List QuadView)) (root : List QuadView) (background : Parts) (w h : ℕ) → AreEffects p.props.effects
      → map groups_of parts ≡ map (λ l. groups_in p.props.effects l.effect) p.layers → HaveOpacities (opacity_in p.props.effects) parts
      → HaveQuads (map (layer_quads p offset ts) p.layers) parts
      → AreBuilt p.view.w p.view.h (viewport p) 0 parts [] passes root
      → (x y : ℤ) → covers (viewport p) x y ≡ true
      → scene_pixel (record { w = w; h = h; background = background; passes = passes ++ root ∷ [] }) x y ≡ paint p offset (missing_keys ts) background x y
  unfolding paint
  scene_shown parts passes root background w h effects groups have quads built x y seen =
      scene_last w h background passes root x y
      ∙ built.painted (opacity_in p.props.effects) have x y seen background
      ∙ ap (λ (items : Items). folded (opacity_in p.props.effects) items background)
      (same_items groups_of (own_colour x y) (λ (l : PageLayer). groups_in p.props.effects l.effect) (shown_colour p offset (missing_keys ts) x y) 0 parts p.layers groups (own_colours parts x y quads seen))
      ∙ alike_painted (opacity_in p.props.effects) (λ (l : PageLayer). groups_in p.props.effects l.effect) (shown_colour p offset (missing_keys ts) x y) (layer_colour_at p offset (missing_keys ts) x y) p.layers background (alike_layers (missing_keys ts) x y effects p.layers)

-- the passes that were built, and the root, are those of a scene
pub is_scene : (p : Page) (parts : List LayerParts) (passes : List (List QuadView)) (root : List QuadView) (background : Parts) → IsView p.view → AreBuilt p.view.w p.view.h (viewport p) 0 parts [] passes root
    → IsScene (record { w = p.view.w; h = p.view.h; background = background; passes = passes ++ root ∷ [] })
is_scene p parts passes root background view built = record {
  wide = record { low = view.w_low; high = view.w_high };
  tall = record { low = view.h_low; high = view.h_high };
  some = let e : length (passes ++ root ∷ []) ≡ length passes + 1 = length-append passes (root ∷ []) in omega (arith, e);
  sound = let zero_more : length passes ≡ 0 + length passes = omega arith in
      sound_append p.view.w p.view.h 0 passes (root ∷ []) (subst (λ (ps : List (List QuadView)). AreSound p.view.w p.view.h 0 ps) (sym built.grown) built.sound) (subst (λ (n : ℕ). AreSound p.view.w p.view.h n (root ∷ [])) zero_more (built.fit, tt));
}
