-- The tiles of one layer among those of a page, which stand in key order.
use Rattle.std.proofs.Common.{ℕ, ◌≡◌, ◌==◌, nat_lt, Bool, true, false, cond, Some, List, [], ◌∷◌, ◌++◌, map, filter, find, refl, ap, sym, ◌∙◌, append-nil, eqb-true, arith}
use Rattle.std.specs.Prelude.{is_some}
use Rattle.std.specs.List.{flat_map}
use Rattle.std.proofs.lemmas.List.{map-append}
use Rattle.std.proofs.lemmas.List.Elements.{filter-append}
use Rattle.std.proofs.lemmas.Bool.Decides.{nat_tests}
use Rattle.geom.specs.declared.rect.Point.{Point}
use Rattle.geom.specs.declared.tile.Place.{Place}
use Rattle.geom.specs.declared.tile.TileKey.{TileKey}
use Rattle.page_layers.specs.Layers.{PageLayer, has_id}
use Rattle.page_layers.specs.Pages.{Page}
use Rattle.page_layers.specs.Refusals.{has_layer}
use Rattle.page_layers.specs.Sound.{AreDistinctLayers}
use Rattle.tile_visible.specs.Visible.{put_layer, by_id, key_at, visible_places, visible_keys}
use Rattle.viz_quads.specs.ShownTiles.{PageTile, place_of_tile, own_tiles}

-- ---- the places that keys of one layer name

abbrev place_in : TileKey → Place
place_in k = record { x = k.x; y = k.y }

places_on : ℕ → List TileKey → List Place
places_on id ks = map place_in (filter (λ k. k.layer == id) ks)

own_keys : (id : ℕ) (ts : List PageTile) → map place_of_tile (own_tiles id ts) ≡ places_on id (map (λ t. t.key) ts)
unfolding places_on
own_keys id [] = refl
own_keys id (t ∷ ts) = go (t.key.layer == id) (own_keys id ts)
  where
    go : (b : Bool) → map place_of_tile (own_tiles id ts) ≡ places_on id (map (λ t. t.key) ts)
        → map place_of_tile (cond b (t ∷ own_tiles id ts) (own_tiles id ts)) ≡ map place_in (cond b (t.key ∷ filter (λ k. k.layer == id) (map (λ t. t.key) ts)) (filter (λ k. k.layer == id) (map (λ t. t.key) ts)))
    go true rest = ap (λ (qs : List Place). place_of_tile t ∷ qs) rest
    go false rest = rest

places_append : (id : ℕ) (ks js : List TileKey) → places_on id (ks ++ js) ≡ places_on id ks ++ places_on id js
unfolding places_on
places_append id ks js = ap (map place_in) (filter-append (λ k. k.layer == id) ks js) ∙ map-append place_in (filter (λ k. k.layer == id) ks) (filter (λ k. k.layer == id) js)

-- the keys of a layer's places are that layer's
places_of_layer : (stamp : ℕ → Place → ℕ) (id layer : ℕ) (qs : List Place) → places_on id (map (key_at stamp layer) qs) ≡ cond (layer == id) qs []
unfolding places_on
places_of_layer stamp id layer [] = none (layer == id)
  where
    none : (b : Bool) → [] ≡ cond {A = List Place} b [] []
    none true = refl
    none false = refl
places_of_layer stamp id layer (q ∷ qs) = go (layer == id) (places_of_layer stamp id layer qs)
  where
    go : (b : Bool) → map place_in (filter (λ k. k.layer == id) (map (key_at stamp layer) qs)) ≡ cond b qs []
        → map place_in (cond b (key_at stamp layer q ∷ filter (λ k. k.layer == id) (map (key_at stamp layer) qs)) (filter (λ k. k.layer == id) (map (key_at stamp layer) qs))) ≡ cond b (q ∷ qs) []
    go true rest = ap (λ (rs : List Place). q ∷ rs) rest
    go false rest = rest

-- ---- what one layer gives among those in the order of ids

module _ {B : Type 0} (g : PageLayer → List B) where
  put_none : (l : PageLayer) (ls : List PageLayer) → g l ≡ [] → flat_map g (put_layer l ls) ≡ flat_map g ls
  put_none l [] e = ap (λ (bs : List B). bs ++ []) e
  put_none l (k ∷ ks) e = go (nat_lt k.id l.id) (put_none l ks e)
    where
      go : (b : Bool) → flat_map g (put_layer l ks) ≡ flat_map g ks → flat_map g (cond b (k ∷ put_layer l ks) (l ∷ k ∷ ks)) ≡ g k ++ flat_map g ks
      go true rest = ap (λ (bs : List B). g k ++ bs) rest
      go false rest = ap (λ (bs : List B). bs ++ (g k ++ flat_map g ks)) e

  nothing_first : (xs ys : List B) → xs ++ ys ≡ [] → (xs ≡ []) × (ys ≡ [])
  nothing_first [] ys e = (refl, e)
  nothing_first (x ∷ xs) ys e = absurd (cc)

  put_one : (l : PageLayer) (ls : List PageLayer) → flat_map g ls ≡ [] → flat_map g (put_layer l ls) ≡ g l
  put_one l [] e = append-nil (g l)
  put_one l (k ∷ ks) e = go (nat_lt k.id l.id) (nothing_first (g k) (flat_map g ks) e) (put_one l ks)
    where
      go : (b : Bool) → (g k ≡ []) × (flat_map g ks ≡ []) → (flat_map g ks ≡ [] → flat_map g (put_layer l ks) ≡ g l) → flat_map g (cond b (k ∷ put_layer l ks) (l ∷ k ∷ ks)) ≡ g l
      go true n rest = ap (λ (bs : List B). bs ++ flat_map g (put_layer l ks)) n.0 ∙ rest n.1
      go false n rest = ap (λ (bs : List B). g l ++ bs) e ∙ append-nil (g l)

  none_there : (id : ℕ) → ((k : PageLayer) → (k.id == id) ≡ false → g k ≡ []) → (ls : List PageLayer) → has_layer id ls ≡ false → flat_map g (by_id ls) ≡ []
  none_there id none [] h = refl
  none_there id none (k ∷ ks) h = go (k.id == id) refl h (none_there id none ks)
    where
      go : (b : Bool) → (k.id == id) ≡ b → is_some (cond b (Some k) (find (has_id id) ks)) ≡ false → (has_layer id ks ≡ false → flat_map g (by_id ks) ≡ []) → flat_map g (put_layer k (by_id ks)) ≡ []
      go true e f rest = absurd (cc)
      go false e f rest = put_none k (by_id ks) (none k e) ∙ rest f

  -- of layers with ids of their own the one with this id gives all that is given
  pub one_there : (id : ℕ) → ((k : PageLayer) → (k.id == id) ≡ false → g k ≡ []) → (ls : List PageLayer) → AreDistinctLayers ls → (l : PageLayer) → find (has_id id) ls ≡ Some l → flat_map g (by_id ls) ≡ g l
  one_there id none [] d l h = absurd (cc)
  one_there id none (k ∷ ks) d l h = go (k.id == id) refl h (one_there id none ks d.1 l)
    where
      go : (b : Bool) → (k.id == id) ≡ b → cond b (Some k) (find (has_id id) ks) ≡ Some l → (find (has_id id) ks ≡ Some l → flat_map g (by_id ks) ≡ g l) → flat_map g (put_layer k (by_id ks)) ≡ g l
      go true e f rest =
          let same : k ≡ l = cc in
          let gone : has_layer id ks ≡ false = ap (λ (n : ℕ). has_layer n ks) (sym (eqb-true k.id id e)) ∙ d.0 in
          put_one k (by_id ks) (none_there id none ks gone) ∙ ap g same
      go false e f rest = put_none k (by_id ks) (none k e) ∙ rest f

-- ---- the tiles of a layer are those of the places that it shows

no_places : (id : ℕ) → places_on id [] ≡ []
unfolding places_on
no_places id = refl

flat_places : (p : Page) (offset : ℕ → Point) (stamp : ℕ → Place → ℕ) (id : ℕ) (ls : List PageLayer)
    → places_on id (flat_map (λ l. map (key_at stamp l.id) (visible_places p offset l)) ls) ≡ flat_map (λ l. cond (l.id == id) (visible_places p offset l) []) ls
flat_places p offset stamp id [] = no_places id
flat_places p offset stamp id (l ∷ ls) =
    places_append id (map (key_at stamp l.id) (visible_places p offset l)) (flat_map (λ l. map (key_at stamp l.id) (visible_places p offset l)) ls)
    ∙ ap (λ (qs : List Place). qs ++ places_on id (flat_map (λ l. map (key_at stamp l.id) (visible_places p offset l)) ls)) (places_of_layer stamp id l.id (visible_places p offset l))
    ∙ ap (λ (qs : List Place). cond (l.id == id) (visible_places p offset l) [] ++ qs) (flat_places p offset stamp id ls)

pub own_places : (p : Page) (offset : ℕ → Point) (stamp : ℕ → Place → ℕ) (ts : List PageTile) (l : PageLayer) → map (λ t. t.key) ts ≡ visible_keys p offset stamp → AreDistinctLayers p.layers
    → find (has_id l.id) p.layers ≡ Some l → map place_of_tile (own_tiles l.id ts) ≡ visible_places p offset l
unfolding visible_keys
own_places p offset stamp ts l keys distinct found =
    own_keys l.id ts
    ∙ ap (places_on l.id) keys
    ∙ flat_places p offset stamp l.id (by_id p.layers)
    ∙ one_there (λ k. cond (k.id == l.id) (visible_places p offset k) []) l.id (λ k e. ap (λ (b : Bool). cond b (visible_places p offset k) []) e) p.layers distinct l found
    ∙ own (l.id == l.id) refl
  where
    own : (b : Bool) → (l.id == l.id) ≡ b → cond b (visible_places p offset l) [] ≡ visible_places p offset l
    own true e = refl
    own false e = absurd (grind (arith, nat_tests, e))
