-- One layer of a page, which is looked for by its id.
use Rattle.std.proofs.Common.{◌≡◌, ℕ, zero, suc, ◌+◌, ◌<◌, ◌≤◌, cond, Option, Some, None, List, [], ◌∷◌, map, get_or, drop, find, length, refl, sym, ◌∙◌, ap, subst, add-one, arith}
use Rattle.std.specs.Prelude.{slice_get}
use Rattle.std.proofs.lemmas.List.{length-map}
use Rattle.std.proofs.lemmas.Option.{slice_get_read}
use Rattle.page_properties.specs.OffsetMap.{offset_at}
use Rattle.tile_tiling.specs.Tiles.{Tiled, stamp_at}
use Rattle.page_layers.specs.declared.layer.Layer.{Layer}
use Rattle.page_layers.specs.Layers.{PageLayer, has_id, parts_of}
use Rattle.page_layers.specs.Pages.{Page}
use Rattle.model_history.specs.Tiles.{Tree}
use Rattle.model_history.proofs.BoolFacts.{is_same, is_other}
use Rattle.impl_ranks.specs.SeenTrees.{SeenLayerModel, AreCut, IsSeenIn, IsLayerOf, PlacedModel, IsPlaced}
use Rattle.impl_ranks.specs.inner.Lists.{Found}
use Rattle.impl_ranks.proofs.VisibleKeys.{as_many, get_mapped}

-- ---- looking from a place on

here : (ls : List PageLayer) (i id : ℕ) (l : PageLayer) → slice_get ls i ≡ Some l → l.id ≡ id → find (has_id id) (drop i ls) ≡ Some l
here [] i id l at e = absurd cc
here (k ∷ ls) zero id l at e =
    let s : k ≡ l = cc in
    ap (λ (z : PageLayer). find (has_id id) (z ∷ ls)) s ∙ ap (λ b. cond b (Some l) (find (has_id id) ls)) (is_same l.id id e)
here (k ∷ ls) (suc i) id l at e = here ls i id l at e

not_next : (ls : List PageLayer) (i id : ℕ) (l : PageLayer) → slice_get ls i ≡ Some l → (l.id ≡ id → ⊥) → find (has_id id) (drop (suc i) ls) ≡ find (has_id id) (drop i ls)
not_next [] i id l at out = absurd cc
not_next (k ∷ ls) zero id l at out =
    let s : k ≡ l = cc in
    ap (λ b. cond b (Some l) (find (has_id id) ls)) (sym (is_other l.id id out)) ∙ ap (λ (z : PageLayer). find (has_id id) (z ∷ ls)) (sym s)
not_next (k ∷ ls) (suc i) id l at out = not_next ls i id l at out

none_left : (ls : List PageLayer) (i : ℕ) → length ls ≤ i → drop i ls ≡ []
none_left [] zero le = refl
none_left [] (suc i) le = refl
none_left (k ∷ ls) zero le = absurd (omega arith)
none_left (k ∷ ls) (suc i) le = none_left ls i (omega arith)

-- the layer at a place of the page
placed_layer : (all : List Layer) (i : ℕ) (l : Layer) → i < length all → l ≡ get_or all i l → slice_get (map parts_of all) i ≡ Some (parts_of l)
placed_layer all i l below at = get_mapped all i l (slice_get_read all (length all) i l refl below at)

-- the layer is not at this place, so it is looked for after it
pub other_layer : (all : List Layer) (id i : ℕ) (l : Layer) (o : Option PageLayer) → i < length all → l ≡ get_or all i l → (l.id ≡ id → ⊥) → find (has_id id) (drop i (map parts_of all)) ≡ o → find (has_id id) (drop (i + 1) (map parts_of all)) ≡ o
other_layer all id i l o below at out before =
    ap (λ n. find (has_id id) (drop n (map parts_of all))) (add-one i)
    ∙ not_next (map parts_of all) i id (parts_of l) (placed_layer all i l below at) out
    ∙ before

module _ (t : Tree) (m : PlacedModel) (all : List Layer) (id i : ℕ) (is : IsPlaced t m) (same : map parts_of all ≡ m.page.layers)
    (before : find (has_id id) (drop i (map parts_of all)) ≡ find (has_id id) (map parts_of all)) where
  layers_are : map parts_of all ≡ t.page.layers
  layers_are = same ∙ ap (λ (p : Page). p.layers) is.page

  -- no layer has the id
  pub not_found : length all ≤ i → Found t id (find (has_id id) t.page.layers) None
  not_found le =
      let n = length-map all parts_of in
      let none : find (has_id id) (map parts_of all) ≡ None = sym before ∙ ap (find (has_id id)) (none_left (map parts_of all) i (omega (arith, n, le))) in
      subst (λ o. Found t id o None) (sym none ∙ ap (find (has_id id)) layers_are) tt

  -- the layer at this place has it
  pub found_here : (l : Layer) (u : Tiled) (v : SeenLayerModel) → AreCut m.page m.tilings → i < length all → l ≡ get_or all i l → u ≡ get_or m.tilings i u → l.id ≡ id
      → IsSeenIn m.page (offset_at m.offsets) (parts_of l) v → v.stamps ≡ u → Found t id (find (has_id id) t.page.layers) (Some v)
  found_here l u v cut below at tiling e seen stamps =
      let n = as_many m.page m.tilings all cut same in
      let stands : slice_get (map parts_of all) i ≡ Some (parts_of l) = placed_layer all i l below at in
      let found : find (has_id id) (map parts_of all) ≡ Some (parts_of l) = sym before ∙ here (map parts_of all) i id (parts_of l) stands e in
      let tiled : slice_get m.tilings i ≡ Some u = slice_get_read m.tilings (length m.tilings) i u refl (omega (arith, n, below)) tiling in
      let offsets : offset_at m.offsets ≡ t.offset = λ j sc. is.offsets sc j in
      let there : slice_get t.page.layers i ≡ Some (parts_of l) = ap (λ ls. slice_get ls i) (sym layers_are) ∙ stands in
      let layer : IsLayerOf t (parts_of l) v = record {
        seen = subst (λ (o : ℕ → _). IsSeenIn t.page o (parts_of l) v) offsets (subst (λ (p : Page). IsSeenIn p (offset_at m.offsets) (parts_of l) v) is.page seen);
        stamps = λ place h. ap (λ (z : Tiled). stamp_at z place) stamps ∙ is.stamps i (parts_of l) u there tiled place h;
      } in
      subst (λ o. Found t id o (Some v)) (sym found ∙ ap (find (has_id id)) layers_are) (layer, e)
