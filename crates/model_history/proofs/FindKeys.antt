-- Which keys a page has: one for each place of each of its layers.
use Rattle.std.proofs.Common.{ℕ, ◌≡◌, ◌==◌, ◌&&◌, ◌||◌, Bool, true, false, cond, Option, Some, None, List, [], ◌∷◌, map, flat_map, refl, ap, sym, ◌∙◌, eqb-true, eq-eqb}
use Rattle.std.specs.Prelude.{nat_lt, is_some}
use Rattle.std.specs.List.{find, list_any}
use Rattle.std.proofs.lemmas.List.Folds.{list_any-append}
use Rattle.geom.specs.declared.tile.Place.{Place}
use Rattle.geom.specs.declared.tile.TileKey.{TileKey}
use Rattle.geom.specs.Grids.{places}
use Rattle.page_layers.specs.Layers.{PageLayer, has_id}
use Rattle.page_layers.specs.Pages.{Page}
use Rattle.page_layers.specs.Refusals.{has_layer}
use Rattle.page_layers.specs.Sound.{AreDistinctLayers}
use Rattle.tile_visible.specs.Visible.{grid_of, put_layer, by_id, key_at}
use Rattle.geom.specs.KeyLists.{same_key, has_key}
use Rattle.model_history.specs.Tiles.{page_keys}
use Rattle.model_history.specs.Ranking.{place_named}

-- a place is in a list
abbrev pub has_place : List Place → Place → Bool
has_place ps q = list_any (λ p. (p.x == q.x) && (p.y == q.y)) ps

-- the key is that of a place of this layer
abbrev pub key_in : Page → (ℕ → Place → ℕ) → TileKey → PageLayer → Bool
key_in p stamp q l = has_place (places (grid_of p l)) (place_named q) && (stamp q.layer (place_named q) == q.stamp)

-- the same of a layer that may be missing
abbrev pub key_on : Page → (ℕ → Place → ℕ) → TileKey → Option PageLayer → Bool
key_on p stamp q None = false
key_on p stamp q (Some l) = key_in p stamp q l

-- ---- the keys of one layer

-- a key of another layer is none of these
pub key_elsewhere : (stamp : ℕ → Place → ℕ) (q : TileKey) (id : ℕ) (ps : List Place) → (id == q.layer) ≡ false → has_key (map (key_at stamp id) ps) q ≡ false
key_elsewhere stamp q id [] out = refl
key_elsewhere stamp q id (p ∷ ps) out =
    ap (λ (b : Bool). (b && (p.x == q.x) && (p.y == q.y) && (stamp id p == q.stamp)) || has_key (map (key_at stamp id) ps) q) out
    ∙ key_elsewhere stamp q id ps out

-- a condition on each of two is one on both
spread : (a b c : Bool) → ((a && c) || (b && c)) ≡ ((a || b) && c)
spread true true true = refl
spread true true false = refl
spread true false true = refl
spread true false false = refl
spread false b c = refl

abbrev place_at : ℕ → ℕ → Place
place_at x y = record { x = x; y = y }

-- one place of the layer
key_here : (stamp : ℕ → Place → ℕ) (q : TileKey) (p : Place) → same_key (key_at stamp q.layer p) q ≡ (((p.x == q.x) && (p.y == q.y)) && (stamp q.layer (place_named q) == q.stamp))
key_here stamp q p =
    ap (λ (b : Bool). b && (p.x == q.x) && (p.y == q.y) && (stamp q.layer p == q.stamp)) (eq-eqb q.layer q.layer refl)
    ∙ go (p.x == q.x) refl (p.y == q.y) refl
  where
    go : (a : Bool) → (p.x == q.x) ≡ a → (b : Bool) → (p.y == q.y) ≡ b → (a && b && (stamp q.layer p == q.stamp)) ≡ ((a && b) && (stamp q.layer (place_named q) == q.stamp))
    go false across b down = refl
    go true across false down = refl
    go true across true down =
        let x : p.x ≡ q.x = eqb-true p.x q.x across in
        let y : p.y ≡ q.y = eqb-true p.y q.y down in
        let same : p ≡ place_named q = ap (λ (n : ℕ). place_at n p.y) x ∙ ap (λ (n : ℕ). place_at q.x n) y in
        ap (λ (z : Place). stamp q.layer z == q.stamp) same

pub key_among : (stamp : ℕ → Place → ℕ) (q : TileKey) (ps : List Place) → has_key (map (key_at stamp q.layer) ps) q ≡ (has_place ps (place_named q) && (stamp q.layer (place_named q) == q.stamp))
key_among stamp q [] = refl
key_among stamp q (p ∷ ps) =
    ap (λ (b : Bool). b || has_key (map (key_at stamp q.layer) ps) q) (key_here stamp q p)
    ∙ ap (λ (b : Bool). (((p.x == q.x) && (p.y == q.y)) && (stamp q.layer (place_named q) == q.stamp)) || b) (key_among stamp q ps)
    ∙ spread ((p.x == q.x) && (p.y == q.y)) (has_place ps (place_named q)) (stamp q.layer (place_named q) == q.stamp)

-- the keys of a layer
abbrev layer_keys : Page → (ℕ → Place → ℕ) → PageLayer → List TileKey
layer_keys p stamp l = map (key_at stamp l.id) (places (grid_of p l))

key_of_layer : (p : Page) (stamp : ℕ → Place → ℕ) (q : TileKey) (l : PageLayer) → has_key (layer_keys p stamp l) q ≡ ((l.id == q.layer) && key_in p stamp q l)
key_of_layer p stamp q l = go (l.id == q.layer) refl
  where
    go : (b : Bool) → (l.id == q.layer) ≡ b → has_key (layer_keys p stamp l) q ≡ (b && key_in p stamp q l)
    go false e = key_elsewhere stamp q l.id (places (grid_of p l)) e
    go true e =
        ap (λ (n : ℕ). has_key (map (key_at stamp n) (places (grid_of p l))) q) (eqb-true l.id q.layer e)
        ∙ key_among stamp q (places (grid_of p l))

-- ---- the keys of all layers

key_of_some : (p : Page) (stamp : ℕ → Place → ℕ) (q : TileKey) (ls : List PageLayer) → has_key (flat_map (layer_keys p stamp) ls) q ≡ list_any (λ l. (l.id == q.layer) && key_in p stamp q l) ls
key_of_some p stamp q [] = refl
key_of_some p stamp q (l ∷ ls) =
    list_any-append (λ k. same_key k q) (layer_keys p stamp l) (flat_map (layer_keys p stamp) ls)
    ∙ ap (λ (b : Bool). b || has_key (flat_map (layer_keys p stamp) ls) q) (key_of_layer p stamp q l)
    ∙ ap (λ (b : Bool). ((l.id == q.layer) && key_in p stamp q l) || b) (key_of_some p stamp q ls)

-- the order of the layers does not matter
swap_or : (a b c : Bool) → (a || (b || c)) ≡ (b || (a || c))
swap_or true true c = refl
swap_or true false c = refl
swap_or false b c = refl

any_put : (test : PageLayer → Bool) (l : PageLayer) (ls : List PageLayer) → list_any test (put_layer l ls) ≡ list_any test (l ∷ ls)
any_put test l [] = refl
any_put test l (k ∷ ks) = go (nat_lt k.id l.id) (any_put test l ks)
  where
    go : (b : Bool) → list_any test (put_layer l ks) ≡ list_any test (l ∷ ks) → list_any test (cond b (k ∷ put_layer l ks) (l ∷ k ∷ ks)) ≡ list_any test (l ∷ k ∷ ks)
    go true rest = ap (λ (b : Bool). test k || b) rest ∙ swap_or (test k) (test l) (list_any test ks)
    go false rest = refl

pub any_by_id : (test : PageLayer → Bool) (ls : List PageLayer) → list_any test (by_id ls) ≡ list_any test ls
any_by_id test [] = refl
any_by_id test (l ∷ ls) = any_put test l (by_id ls) ∙ ap (λ (b : Bool). test l || b) (any_by_id test ls)

-- of layers with ids of their own the one that is found decides
pub absent_any : (id : ℕ) (u : PageLayer → Bool) (ls : List PageLayer) → has_layer id ls ≡ false → list_any (λ l. (l.id == id) && u l) ls ≡ false
absent_any id u [] none = refl
absent_any id u (l ∷ ls) none = go (l.id == id) none (absent_any id u ls)
  where
    go : (b : Bool) → is_some (cond b (Some l) (find (has_id id) ls)) ≡ false → (has_layer id ls ≡ false → list_any (λ l. (l.id == id) && u l) ls ≡ false) → ((b && u l) || list_any (λ l. (l.id == id) && u l) ls) ≡ false
    go true e rest = absurd (cc)
    go false e rest = rest e

pub or_nothing : (b c : Bool) → c ≡ false → (b || c) ≡ b
or_nothing true c e = refl
or_nothing false c e = e

any_found : (p : Page) (stamp : ℕ → Place → ℕ) (q : TileKey) (ls : List PageLayer) → AreDistinctLayers ls → list_any (λ l. (l.id == q.layer) && key_in p stamp q l) ls ≡ key_on p stamp q (find (has_id q.layer) ls)
any_found p stamp q [] d = refl
any_found p stamp q (l ∷ ls) d = go (l.id == q.layer) refl (any_found p stamp q ls d.1)
  where
    go : (b : Bool) → (l.id == q.layer) ≡ b → list_any (λ l. (l.id == q.layer) && key_in p stamp q l) ls ≡ key_on p stamp q (find (has_id q.layer) ls)
        → ((b && key_in p stamp q l) || list_any (λ l. (l.id == q.layer) && key_in p stamp q l) ls) ≡ key_on p stamp q (cond b (Some l) (find (has_id q.layer) ls))
    go true e rest = or_nothing (key_in p stamp q l) _ (absent_any q.layer (key_in p stamp q) ls (ap (λ (n : ℕ). has_layer n ls) (sym (eqb-true l.id q.layer e)) ∙ d.0))
    go false e rest = rest

-- the keys of a page whose layers have ids of their own
pub key_of_page : (p : Page) (stamp : ℕ → Place → ℕ) (q : TileKey) → AreDistinctLayers p.layers → has_key (page_keys p stamp) q ≡ key_on p stamp q (find (has_id q.layer) p.layers)
unfolding page_keys
key_of_page p stamp q d =
    key_of_some p stamp q (by_id p.layers)
    ∙ any_by_id (λ l. (l.id == q.layer) && key_in p stamp q l) p.layers
    ∙ any_found p stamp q p.layers d
