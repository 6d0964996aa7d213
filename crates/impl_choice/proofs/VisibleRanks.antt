-- A key has the rank of a visible tile exactly where it is one of the visible keys of a tree.
use Rattle.std.proofs.Common.{ℕ, ◌≡◌, ◌==◌, ◌&&◌, ◌||◌, Bool, true, false, cond, Option, Some, None, List, [], ◌∷◌, map, filter, flat_map, option_map, refl, ap, sym, ◌∙◌, eqb-true}
use Rattle.std.specs.Prelude.{nat_le, if◌then◌else◌}
use Rattle.std.specs.List.{find, list_any}
use Rattle.std.specs.declared.cmp.Ordering.{Ordering}
use Rattle.std.specs.declared.cmp.Ordering.TheVariants.{Less, Equal, Greater}
use Rattle.std.proofs.lemmas.List.Folds.{list_any-append}
use Rattle.geom.specs.declared.rect.Point.{Point}
use Rattle.geom.specs.declared.tile.Place.{Place}
use Rattle.geom.specs.declared.tile.TileKey.{TileKey}
use Rattle.geom.specs.Gaps.{distance}
use Rattle.geom.specs.Grids.{places}
use Rattle.geom.specs.KeyLists.{same_key, has_key}
use Rattle.tile_priority.specs.declared.rank.Bin.{Bin}
use Rattle.tile_priority.specs.declared.rank.Bin.TheVariants as bin
use Rattle.tile_priority.specs.declared.rank.Rank.{Rank}
use Rattle.tile_priority.specs.declared.rank.Side.{Side}
use Rattle.tile_priority.specs.declared.tile.Borders.{Borders}
use Rattle.tile_priority.specs.declared.tile.Seen.{Seen}
use Rattle.tile_priority.specs.Bins as bins
use Rattle.tile_priority.specs.Bins.{bin_at, bin_of, rank_of, tree_number}
use Rattle.tile_priority.specs.Ranks.{rank_cmp, least}
use Rattle.std.specs.Ordering.{match_ordering}
use Rattle.tile_priority.specs.Choice.{is_now, is_visible_rank}
use Rattle.page_layers.specs.Layers.{PageLayer, has_id}
use Rattle.page_layers.specs.Pages.{Page}
use Rattle.page_layers.specs.Refusals.{has_layer}
use Rattle.page_layers.specs.Sound.{AreDistinctLayers}
use Rattle.tile_visible.specs.Visible.{grid_of, seen, visible_places, visible_keys, by_id, key_at}
use Rattle.model_history.specs.Scripts.{ScriptModel}
use Rattle.model_history.specs.Tiles.{Tree, visible_in}
use Rattle.model_history.specs.Ranking.{borders, place_named, rank_on, rank_in}
use Rattle.model_history.proofs.FindKeys.{has_place, key_elsewhere, key_among, any_by_id, absent_any, or_nothing, key_on, key_of_page}

-- ---- the visible keys of a page

-- the key is that of a visible place of this layer
abbrev pub shown_in : Page → (ℕ → Point) → (ℕ → Place → ℕ) → TileKey → PageLayer → Bool
shown_in p offset stamp q l = has_place (visible_places p offset l) (place_named q) && (stamp q.layer (place_named q) == q.stamp)

abbrev pub shown_on : Page → (ℕ → Point) → (ℕ → Place → ℕ) → TileKey → Option PageLayer → Bool
shown_on p offset stamp q None = false
shown_on p offset stamp q (Some l) = shown_in p offset stamp q l

module _ (p : Page) (offset : ℕ → Point) (stamp : ℕ → Place → ℕ) (q : TileKey) where
  abbrev pub layer_keys : PageLayer → List TileKey
  layer_keys l = map (key_at stamp l.id) (visible_places p offset l)

  pub key_of_layer : (l : PageLayer) → has_key (layer_keys l) q ≡ ((l.id == q.layer) && shown_in p offset stamp q l)
  key_of_layer l = go (l.id == q.layer) refl
    where
      go : (b : Bool) → (l.id == q.layer) ≡ b → has_key (layer_keys l) q ≡ (b && shown_in p offset stamp q l)
      go false e = key_elsewhere stamp q l.id (visible_places p offset l) e
      go true e =
          ap (λ (n : ℕ). has_key (map (key_at stamp n) (visible_places p offset l)) q) (eqb-true l.id q.layer e)
          ∙ key_among stamp q (visible_places p offset l)

  pub key_of_some : (ls : List PageLayer) → has_key (flat_map layer_keys ls) q ≡ list_any (λ l. (l.id == q.layer) && shown_in p offset stamp q l) ls
  key_of_some [] = refl
  key_of_some (l ∷ ls) =
      list_any-append (λ k. same_key k q) (layer_keys l) (flat_map layer_keys ls)
      ∙ ap (λ (b : Bool). b || has_key (flat_map layer_keys ls) q) (key_of_layer l)
      ∙ ap (λ (b : Bool). ((l.id == q.layer) && shown_in p offset stamp q l) || b) (key_of_some ls)

  any_found : (ls : List PageLayer) → AreDistinctLayers ls → list_any (λ l. (l.id == q.layer) && shown_in p offset stamp q l) ls ≡ shown_on p offset stamp q (find (has_id q.layer) ls)
  any_found [] d = refl
  any_found (l ∷ ls) d = go (l.id == q.layer) refl (any_found ls d.1)
    where
      go : (b : Bool) → (l.id == q.layer) ≡ b → list_any (λ l. (l.id == q.layer) && shown_in p offset stamp q l) ls ≡ shown_on p offset stamp q (find (has_id q.layer) ls)
          → ((b && shown_in p offset stamp q l) || list_any (λ l. (l.id == q.layer) && shown_in p offset stamp q l) ls) ≡ shown_on p offset stamp q (cond b (Some l) (find (has_id q.layer) ls))
      go true e rest = or_nothing (shown_in p offset stamp q l) _ (absent_any q.layer (shown_in p offset stamp q) ls (ap (λ (n : ℕ). has_layer n ls) (sym (eqb-true l.id q.layer e)) ∙ d.0))
      go false e rest = rest

  visible_by_layer : AreDistinctLayers p.layers → has_key (visible_keys p offset stamp) q ≡ shown_on p offset stamp q (find (has_id q.layer) p.layers)
  unfolding visible_keys
  visible_by_layer d =
      key_of_some (by_id p.layers)
      ∙ any_by_id (λ l. (l.id == q.layer) && shown_in p offset stamp q l) p.layers
      ∙ any_found p.layers d

abbrev place_at : ℕ → ℕ → Place
place_at x y = record { x = x; y = y }

-- a place among those that pass a test
same_place : (r q : Place) (b : Bool) → ((r.x == q.x) && (r.y == q.y)) ≡ b → b ≡ true → r ≡ q
same_place r q b e t = by_x (r.x == q.x) refl (r.y == q.y) refl (e ∙ t)
  where
    by_x : (a : Bool) → (r.x == q.x) ≡ a → (c : Bool) → (r.y == q.y) ≡ c → (a && c) ≡ true → r ≡ q
    by_x true x true y i = ap (λ (n : ℕ). place_at n r.y) (eqb-true r.x q.x x) ∙ ap (λ (n : ℕ). place_at q.x n) (eqb-true r.y q.y y)
    by_x true x false y i = absurd cc
    by_x false x c y i = absurd cc

passing_place : (f : Place → Bool) (ps : List Place) (q : Place) → has_place (filter f ps) q ≡ (has_place ps q && f q)
passing_place f [] q = refl
passing_place f (r ∷ ps) q = at_head (f r) refl ((r.x == q.x) && (r.y == q.y)) refl (passing_place f ps q)
  where
    kept : (c d : Bool) → (c ≡ true → d ≡ true) → (b : Bool) → (c || (b && d)) ≡ ((c || b) && d)
    kept true d g b = sym (g refl)
    kept false d g b = refl

    left_out : (c d : Bool) → (c ≡ true → d ≡ false) → (b : Bool) → (b && d) ≡ ((c || b) && d)
    left_out true true g b = absurd (let e : true ≡ false = g refl in cc)
    left_out true false g true = refl
    left_out true false g false = refl
    left_out false d g b = refl

    at_head : (t : Bool) → f r ≡ t → (c : Bool) → ((r.x == q.x) && (r.y == q.y)) ≡ c → has_place (filter f ps) q ≡ (has_place ps q && f q)
        → has_place (cond t (r ∷ filter f ps) (filter f ps)) q ≡ ((c || has_place ps q) && f q)
    at_head true e c k rest =
        ap (λ (b : Bool). b || has_place (filter f ps) q) k
        ∙ (ap (λ (b : Bool). c || b) rest ∙ kept c (f q) (λ i. ap f (sym (same_place r q c k i)) ∙ e) (has_place ps q))
    at_head false e c k rest = rest ∙ left_out c (f q) (λ i. ap f (sym (same_place r q c k i)) ∙ e) (has_place ps q)

-- ---- ranks of visible tiles

shown_bin : (b : Borders) (v : Seen) (f : Bin → Rank) → ((x : Bin) → (f x).bin ≡ x) → is_visible_rank (option_map f (bin_of b v)) ≡ bins.is_visible v
shown_bin b v f is = by_visible (bins.is_visible v)
  where
    later : (s e : Bool) → is_visible_rank (option_map f (if s then Some bin.Soon else (if e then Some bin.Eventually else None))) ≡ false
    later true e = ap is_now (is bin.Soon)
    later false true = ap is_now (is bin.Eventually)
    later false false = refl

    by_visible : (t : Bool) → is_visible_rank (option_map f (if t then Some bin.Now else bin_at b (distance v.screen b.viewport))) ≡ t
    by_visible true = ap is_now (is bin.Now)
    by_visible false = later (nat_le (distance v.screen b.viewport) b.soon) (nat_le (distance v.screen b.viewport) b.eventually)

shown_rank : (b : Borders) (a : Side) (v : Seen) (q : TileKey) → is_visible_rank (rank_of b a v q) ≡ bins.is_visible v
shown_rank b a v q = shown_bin b v (λ bin. record { bin = bin; tree = tree_number b.priority a; distance = distance v.screen b.viewport; key = q }) (λ x. refl)

and_true : (b : Bool) → b ≡ (b && true)
and_true true = refl
and_true false = refl

and_false : (b : Bool) → false ≡ (b && false)
and_false true = refl
and_false false = refl

-- a rank that is there under two tests
both_tests : (h e v : Bool) (r : Option Rank) → is_visible_rank r ≡ v → is_visible_rank (cond (h && e) r None) ≡ ((h && v) && e)
both_tests true true v r is = is ∙ and_true v
both_tests true false v r is = and_false v
both_tests false e v r is = refl

shown_on_layer : (s : ScriptModel) (a : Side) (t : Tree) (q : TileKey) (o : Option PageLayer) → is_visible_rank (cond (key_on t.page t.stamp q o) (rank_on s a t q o) None) ≡ shown_on t.page t.offset t.stamp q o
unfolding visible_places
shown_on_layer s a t q None = refl
shown_on_layer s a t q (Some l) =
    both_tests (has_place (places (grid_of t.page l)) (place_named q)) (t.stamp q.layer (place_named q) == q.stamp) (bins.is_visible (seen t.page t.offset l (place_named q))) (rank_on s a t q (Some l))
    (shown_rank (borders s t.page) a (seen t.page t.offset l (place_named q)) q)
    ∙ ap (λ (b : Bool). b && (t.stamp q.layer (place_named q) == q.stamp)) (sym (passing_place (λ place. bins.is_visible (seen t.page t.offset l place)) (places (grid_of t.page l)) (place_named q)))

-- a key is visible in a tree exactly where its rank there is that of a visible tile
pub shown_in_tree : (s : ScriptModel) (a : Side) (t : Tree) (q : TileKey) → AreDistinctLayers t.page.layers → is_visible_rank (rank_in s a t q) ≡ has_key (visible_in t) q
unfolding rank_in
shown_in_tree s a t q d =
    ap (λ (b : Bool). is_visible_rank (cond b (rank_on s a t q (find (has_id q.layer) t.page.layers)) None)) (key_of_page t.page t.stamp q d)
    ∙ shown_on_layer s a t q (find (has_id q.layer) t.page.layers)
    ∙ sym (visible_by_layer t.page t.offset t.stamp q d)

-- the better of two ranks is that of a visible tile where either is
pub shown_least : (x y : Option Rank) → is_visible_rank (least x y) ≡ (is_visible_rank x || is_visible_rank y)
shown_least None y = refl
shown_least (Some a) None = or_false (is_now a.bin)
  where
    or_false : (b : Bool) → b ≡ (b || false)
    or_false true = refl
    or_false false = refl
shown_least (Some a) (Some b) = by_bins a.bin refl b.bin refl
  where
    either : (t : Ordering) → (c : Bool) → is_now a.bin ≡ c → is_now b.bin ≡ c → is_visible_rank (match_ordering t (Some b) (Some a) (Some a)) ≡ c
    either Less c e f = f
    either Equal c e f = e
    either Greater c e f = e

    by_bins : (x : Bin) → a.bin ≡ x → (y : Bin) → b.bin ≡ y → is_visible_rank (match_ordering (rank_cmp b a) (Some b) (Some a) (Some a)) ≡ (is_now a.bin || is_now b.bin)
    by_bins bin.Now e bin.Now f = either (rank_cmp b a) true (ap is_now e) (ap is_now f) ∙ rw e refl
    by_bins bin.Now e bin.Soon f = rw (e, f) refl
    by_bins bin.Now e bin.Eventually f = rw (e, f) refl
    by_bins bin.Soon e bin.Now f = rw (e, f) refl
    by_bins bin.Eventually e bin.Now f = rw (e, f) refl
    by_bins bin.Soon e bin.Soon f = either (rank_cmp b a) false (ap is_now e) (ap is_now f) ∙ rw (e, f) refl
    by_bins bin.Soon e bin.Eventually f = either (rank_cmp b a) false (ap is_now e) (ap is_now f) ∙ rw (e, f) refl
    by_bins bin.Eventually e bin.Soon f = either (rank_cmp b a) false (ap is_now e) (ap is_now f) ∙ rw (e, f) refl
    by_bins bin.Eventually e bin.Eventually f = either (rank_cmp b a) false (ap is_now e) (ap is_now f) ∙ rw (e, f) refl
