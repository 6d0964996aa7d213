-- No key stands twice among the visible keys of a tree.
use Rattle.std.proofs.Common.{ℕ, ◌≡◌, ◌==◌, ◌||◌, Bool, true, false, cond, Option, Some, List, [], ◌∷◌, ◌++◌, map, flat_map, refl, ap, sym, ◌∙◌, subst, eqb-true, eq-eqb}
use Rattle.std.specs.Prelude.{nat_lt, is_some, neg_ℤ}
use Rattle.std.specs.List.{find, list_any}
use Rattle.geom.specs.declared.rect.Point.{Point}
use Rattle.geom.specs.declared.rect.Rect.{Rect}
use Rattle.geom.specs.declared.tile.Place.{Place}
use Rattle.geom.specs.declared.tile.TileKey.{TileKey}
use Rattle.geom.specs.Gaps.{shifted}
use Rattle.geom.specs.KeyLists.{same_key, has_key, AreDistinctKeys}
use Rattle.geom.proofs.KeyLists.{key_itself}
use Rattle.tile_priority.specs.Ordered.{In}
use Rattle.tile_priority.proofs.InOrder.{in_map}
use Rattle.page_properties.specs.Placement.{translation, clip_of, draws}
use Rattle.page_layers.specs.Layers.{PageLayer, has_id}
use Rattle.page_layers.specs.Pages.{Page, viewport}
use Rattle.page_layers.specs.Refusals.{has_layer}
use Rattle.page_layers.specs.Sound.{AreDistinctLayers}
use Rattle.tile_visible.specs.Visible.{grid_of, cut_by, visible_places, visible_keys, put_layer, by_id, key_at}
use Rattle.tile_visible.proofs.SeenPlaces.{none_seen, touched_seen}
use Rattle.model_history.specs.Tiles.{Tree, visible_in}
use Rattle.model_history.proofs.BoolFacts.{is_false, and_left, or_neither}
use Rattle.model_history.proofs.KeyFacts.{has_append, in_has}
use Rattle.model_history.proofs.FindKeys.{any_by_id, absent_any}
use Rattle.impl_ranks.proofs.GridPlaces.{AreApart, touching_apart}
use Rattle.impl_choice.proofs.VisibleRanks.{shown_in, key_of_layer, key_of_some}

-- ---- the visible places of one layer

places_by : (p : Page) (offset : ℕ → Point) (l : PageLayer) (clip : Rect) (by : Point) (b : Bool) → draws p.props.effects l.effect ≡ b → clip ≡ cut_by (viewport p) (clip_of offset p.props.transforms p.props.clips l.clip) → by ≡ translation offset p.props.transforms l.transform
    → AreApart (visible_places p offset l)
places_by p offset l clip by true e cut moved = subst (λ (ps : List Place). AreApart ps) (touched_seen p offset l clip by e cut moved) (touching_apart (grid_of p l) (shifted clip (record { x = neg_ℤ by.x; y = neg_ℤ by.y })))
places_by p offset l clip by false e cut moved = subst (λ (ps : List Place). AreApart ps) (sym (none_seen p offset l e)) tt

places_once : (p : Page) (offset : ℕ → Point) (l : PageLayer) → AreApart (visible_places p offset l)
places_once p offset l = places_by p offset l (cut_by (viewport p) (clip_of offset p.props.transforms p.props.clips l.clip)) (translation offset p.props.transforms l.transform) (draws p.props.effects l.effect) refl refl refl

keys_once : (stamp : ℕ → Place → ℕ) (id : ℕ) (ps : List Place) → AreApart ps → AreDistinctKeys (map (key_at stamp id) ps)
keys_once stamp id [] d = tt
keys_once stamp id (p ∷ ps) d = (is_false (has_key (map (key_at stamp id) ps) (key_at stamp id p)) (λ t. d.0 (there t)), keys_once stamp id ps d.1)
  where
    there : has_key (map (key_at stamp id) ps) (key_at stamp id p) ≡ true → In p ps
    there t =
        let (r, j, e) = in_map (key_at stamp id) (key_at stamp id p) ps (in_has (map (key_at stamp id) ps) (key_at stamp id p) t) in
        let same : r ≡ p = λ n. record { x = (e n).x; y = (e n).y } in
        subst (λ (z : Place). In z ps) same j

-- ---- layers in the order of their ids

has_any : (id : ℕ) (ls : List PageLayer) → has_layer id ls ≡ list_any (λ l. l.id == id) ls
has_any id [] = refl
has_any id (l ∷ ls) = by_test (l.id == id) (has_any id ls)
  where
    by_test : (b : Bool) → has_layer id ls ≡ list_any (λ l. l.id == id) ls → is_some (cond b (Some l) (find (has_id id) ls)) ≡ (b || list_any (λ l. l.id == id) ls)
    by_test true e = refl
    by_test false e = e

any_put : (id : ℕ) (l : PageLayer) (ls : List PageLayer) → has_layer id (put_layer l ls) ≡ has_layer id (l ∷ ls)
any_put id l [] = refl
any_put id l (k ∷ ks) = by_test (nat_lt k.id l.id) (any_put id l ks)
  where
    swap : (a b : Bool) (x y : PageLayer) (o : Option PageLayer) → is_some (cond a (Some x) (cond b (Some y) o)) ≡ is_some (cond b (Some y) (cond a (Some x) o))
    swap true true x y o = refl
    swap true false x y o = refl
    swap false b x y o = refl

    later : (b : Bool) (x : PageLayer) (o w : Option PageLayer) → is_some o ≡ is_some w → is_some (cond b (Some x) o) ≡ is_some (cond b (Some x) w)
    later true x o w e = refl
    later false x o w e = e

    by_test : (b : Bool) → has_layer id (put_layer l ks) ≡ has_layer id (l ∷ ks) → has_layer id (cond b (k ∷ put_layer l ks) (l ∷ k ∷ ks)) ≡ has_layer id (l ∷ k ∷ ks)
    by_test true e = later (k.id == id) k (find (has_id id) (put_layer l ks)) (find (has_id id) (l ∷ ks)) e ∙ swap (k.id == id) (l.id == id) k l (find (has_id id) ks)
    by_test false e = refl

other_way : (a b : ℕ) → (a == b) ≡ false → (b == a) ≡ false
other_way a b e = is_false (b == a) (λ t. let f : (a == b) ≡ true = eq-eqb a b (sym (eqb-true b a t)) in absurd (let g : true ≡ false = sym f ∙ e in cc))

put_once : (l : PageLayer) (ls : List PageLayer) → has_layer l.id ls ≡ false → AreDistinctLayers ls → AreDistinctLayers (put_layer l ls)
put_once l [] n d = (refl, tt)
put_once l (k ∷ ks) n d = by_test (nat_lt k.id l.id) (put_once l ks here.1 d.1)
  where
    apart : (b : Bool) → is_some (cond b (Some k) (find (has_id l.id) ks)) ≡ false → (b ≡ false) × (has_layer l.id ks ≡ false)
    apart true e = absurd cc
    apart false e = (refl, e)

    here : ((k.id == l.id) ≡ false) × (has_layer l.id ks ≡ false)
    here = apart (k.id == l.id) n

    absent : has_layer k.id (l ∷ ks) ≡ false
    absent = ap (λ (b : Bool). is_some (cond b (Some l) (find (has_id k.id) ks))) (other_way k.id l.id here.0) ∙ d.0

    by_test : (b : Bool) → AreDistinctLayers (put_layer l ks) → AreDistinctLayers (cond b (k ∷ put_layer l ks) (l ∷ k ∷ ks))
    by_test true r = (any_put k.id l ks ∙ absent, r)
    by_test false r = (n, d)

same_layers : (id : ℕ) (ls : List PageLayer) → has_layer id (by_id ls) ≡ has_layer id ls
same_layers id ls = has_any id (by_id ls) ∙ (any_by_id (λ l. l.id == id) ls ∙ sym (has_any id ls))

by_id_once : (ls : List PageLayer) → AreDistinctLayers ls → AreDistinctLayers (by_id ls)
by_id_once [] d = tt
by_id_once (l ∷ ls) d = put_once l (by_id ls) (same_layers l.id ls ∙ d.0) (by_id_once ls d.1)

-- ---- all layers

pub once_append : (ks ls : List TileKey) → AreDistinctKeys ks → AreDistinctKeys ls → ((q : TileKey) → has_key ks q ≡ true → has_key ls q ≡ false) → AreDistinctKeys (ks ++ ls)
once_append [] ls d e f = e
once_append (k ∷ ks) ls d e f = (
  has_append ks ls k ∙ or_neither (has_key ks k) (has_key ls k) d.0 (f k (first k ks)),
  once_append ks ls d.1 e (λ q t. f q (later q k ks t)),
)
  where
    first : (k : TileKey) (ks : List TileKey) → has_key (k ∷ ks) k ≡ true
    first k ks = ap (λ b. b || has_key ks k) (key_itself k)

    later : (q k : TileKey) (ks : List TileKey) → has_key ks q ≡ true → has_key (k ∷ ks) q ≡ true
    later q k ks t = by_test (same_key k q)
      where
        by_test : (b : Bool) → (b || has_key ks q) ≡ true
        by_test true = refl
        by_test false = t

module _ (p : Page) (offset : ℕ → Point) (stamp : ℕ → Place → ℕ) where
  layers_once : (ls : List PageLayer) → AreDistinctLayers ls → AreDistinctKeys (flat_map (λ l. map (key_at stamp l.id) (visible_places p offset l)) ls)
  layers_once [] d = tt
  layers_once (l ∷ ls) d =
      once_append (map (key_at stamp l.id) (visible_places p offset l)) (flat_map (λ l. map (key_at stamp l.id) (visible_places p offset l)) ls)
      (keys_once stamp l.id (visible_places p offset l) (places_once p offset l)) (layers_once ls d.1)
      (λ q t.
      let on : l.id ≡ q.layer = eqb-true l.id q.layer (and_left (l.id == q.layer) (shown_in p offset stamp q l) (sym (key_of_layer p offset stamp q l) ∙ t)) in
      key_of_some p offset stamp q ls ∙ absent_any q.layer (shown_in p offset stamp q) ls (ap (λ n. has_layer n ls) (sym on) ∙ d.0))

  visible_once : AreDistinctLayers p.layers → AreDistinctKeys (visible_keys p offset stamp)
  unfolding visible_keys
  visible_once d = layers_once (by_id p.layers) (by_id_once p.layers d)

pub shown_once : (t : Tree) → AreDistinctLayers t.page.layers → AreDistinctKeys (visible_in t)
shown_once t d = visible_once t.page t.offset t.stamp d
