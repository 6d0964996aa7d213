-- The tiles of a page stand by rising layer, so those of one layer stand together.
use Rattle.std.proofs.Common.{ℕ, zero, suc, ◌≡◌, ◌<◌, ◌≤◌, ◌==◌, nat_lt, nat_le, Bool, true, false, cond, List, [], ◌∷◌, ◌++◌, map, filter, length, get_or, take, drop, All, refl, ap, sym, ◌∙◌, subst, eqb-true, arith}
use Rattle.std.specs.List.{flat_map}
use Rattle.std.specs.List.Sorted.{IsNonDecreasingBy, IsPartitionPoint}
use Rattle.std.proofs.lemmas.Bool.Decides.{nat_tests}
use Rattle.std.proofs.lemmas.List.Sorted.{IsNonDecreasingBy-drop}
use Rattle.std.proofs.lemmas.List.Elements.{All-filter, All-same, filter_passes}
use Rattle.geom.specs.declared.rect.Point.{Point}
use Rattle.geom.specs.declared.tile.Place.{Place}
use Rattle.geom.specs.declared.tile.TileKey.{TileKey}
use Rattle.page_layers.specs.Layers.{PageLayer}
use Rattle.page_layers.specs.Pages.{Page}
use Rattle.tile_visible.specs.Visible.{put_layer, by_id, key_at, visible_places, visible_keys}
use Rattle.viz_quads.specs.declared.shown_tile.ShownTile.{ShownTile}
use Rattle.viz_quads.specs.ShownTiles.{tile_of, own_tiles, AreShownTiles}

-- ---- numbers that rise

-- none of the numbers is below `least`
abbrev AreFrom : ℕ → List ℕ → Type 0
AreFrom least [] = Unit {0}
AreFrom least (n ∷ ns) = (least ≤ n) × AreFrom least ns

-- no number is followed by a smaller one
abbrev AreRising : List ℕ → Type 0
AreRising [] = Unit {0}
AreRising (n ∷ ns) = AreFrom n ns × AreRising ns

from_less : (less least : ℕ) (ns : List ℕ) → less ≤ least → AreFrom least ns → AreFrom less ns
from_less less least [] le f = tt
from_less less least (n ∷ ns) le f = (omega (arith, le, f.0), from_less less least ns le f.1)

module _ {X : Type 0} (number : X → ℕ) where
  from_at : (least : ℕ) (xs : List X) (k : ℕ) (d : X) → AreFrom least (map number xs) → k < length xs → least ≤ number (get_or xs k d)
  from_at least [] k d f lt = absurd (omega arith)
  from_at least (x ∷ xs) zero d f lt = f.0
  from_at least (x ∷ xs) (suc k) d f lt = from_at least xs k d f.1 (omega arith)

  non_decreasing : (xs : List X) → AreRising (map number xs) → IsNonDecreasingBy number xs
  non_decreasing [] r i j d le lt = absurd (omega arith)
  non_decreasing (x ∷ xs) r zero zero d le lt = omega arith
  non_decreasing (x ∷ xs) r zero (suc j) d le lt = from_at (number x) xs j d r.0 (omega arith)
  non_decreasing (x ∷ xs) r (suc i) zero d le lt = absurd (omega arith)
  non_decreasing (x ∷ xs) r (suc i) (suc j) d le lt = non_decreasing xs r.1 i j d (omega arith) (omega arith)

-- ---- layers by rising id

put_from : (least : ℕ) (l : PageLayer) (ls : List PageLayer) → least ≤ l.id → AreFrom least (map (λ k. k.id) ls) → AreFrom least (map (λ k. k.id) (put_layer l ls))
put_from least l [] le f = (le, tt)
put_from least l (k ∷ ks) le f = go (nat_lt k.id l.id) (put_from least l ks le f.1)
  where
    go : (b : Bool) → AreFrom least (map (λ i. i.id) (put_layer l ks)) → AreFrom least (map (λ i. i.id) (cond b (k ∷ put_layer l ks) (l ∷ k ∷ ks)))
    go true more = (f.0, more)
    go false more = (le, f)

put_rises : (l : PageLayer) (ls : List PageLayer) → AreRising (map (λ k. k.id) ls) → AreRising (map (λ k. k.id) (put_layer l ls))
put_rises l [] r = (tt, tt)
put_rises l (k ∷ ks) r = go (nat_lt k.id l.id) refl (put_rises l ks r.1)
  where
    go : (b : Bool) → nat_lt k.id l.id ≡ b → AreRising (map (λ i. i.id) (put_layer l ks)) → AreRising (map (λ i. i.id) (cond b (k ∷ put_layer l ks) (l ∷ k ∷ ks)))
    go true e more = (put_from k.id l ks (grind (arith, nat_tests, e)) r.0, more)
    go false e more = let le : l.id ≤ k.id = grind (arith, nat_tests, e) in ((le, from_less l.id k.id (map (λ i. i.id) ks) le r.0), r)

layers_rise : (ls : List PageLayer) → AreRising (map (λ l. l.id) (by_id ls))
layers_rise [] = tt
layers_rise (l ∷ ls) = put_rises l (by_id ls) (layers_rise ls)

-- ---- the keys of their places

module _ (stamp : ℕ → Place → ℕ) (shown : PageLayer → List Place) where
  -- keys of one layer before others
  before_from : (least id : ℕ) (qs : List Place) (rest : List TileKey) → least ≤ id → AreFrom least (map (λ k. k.layer) rest) → AreFrom least (map (λ k. k.layer) (map (key_at stamp id) qs ++ rest))
  before_from least id [] rest le f = f
  before_from least id (q ∷ qs) rest le f = (le, before_from least id qs rest le f)

  before_rises : (id : ℕ) (qs : List Place) (rest : List TileKey) → AreFrom id (map (λ k. k.layer) rest) → AreRising (map (λ k. k.layer) rest) → AreRising (map (λ k. k.layer) (map (key_at stamp id) qs ++ rest))
  before_rises id [] rest f r = r
  before_rises id (q ∷ qs) rest f r = (before_from id id qs rest (omega arith) f, before_rises id qs rest f r)

  all_from : (least : ℕ) (ls : List PageLayer) → AreFrom least (map (λ l. l.id) ls) → AreFrom least (map (λ k. k.layer) (flat_map (λ l. map (key_at stamp l.id) (shown l)) ls))
  all_from least [] f = tt
  all_from least (l ∷ ls) f = before_from least l.id (shown l) (flat_map (λ k. map (key_at stamp k.id) (shown k)) ls) f.0 (all_from least ls f.1)

  all_rise : (ls : List PageLayer) → AreRising (map (λ l. l.id) ls) → AreRising (map (λ k. k.layer) (flat_map (λ l. map (key_at stamp l.id) (shown l)) ls))
  all_rise [] r = tt
  all_rise (l ∷ ls) r = before_rises l.id (shown l) (flat_map (λ k. map (key_at stamp k.id) (shown k)) ls) (all_from l.id ls r.0) (all_rise ls r.1)

keys_rise : (p : Page) (offset : ℕ → Point) (stamp : ℕ → Place → ℕ) → AreRising (map (λ k. k.layer) (visible_keys p offset stamp))
unfolding visible_keys
keys_rise p offset stamp = all_rise stamp (visible_places p offset) (by_id p.layers) (layers_rise p.layers)

-- ---- tiles

layers_same : (shown : List ShownTile) → map (λ s. s.key.layer) shown ≡ map (λ k. k.layer) (map (λ t. t.key) (map tile_of shown))
layers_same [] = refl
layers_same (s ∷ ss) = ap (λ (ns : List ℕ). s.key.layer ∷ ns) (layers_same ss)

-- the tiles that a page shows stand by rising layer
pub tiles_rise : (p : Page) (offset : ℕ → Point) (shown : List ShownTile) → AreShownTiles p offset (map tile_of shown) → IsNonDecreasingBy (λ s. s.key.layer) shown
tiles_rise p offset shown right =
    non_decreasing (λ s. s.key.layer) shown
    (subst AreRising (sym (layers_same shown ∙ ap (map (λ k. k.layer)) right.keys)) (keys_rise p offset right.stamp))

-- of tiles by rising layer those of one layer stand after those of smaller ids, and before those of greater ones
cut_out : (id : ℕ) (xs : List ShownTile) (i j : ℕ)
    → IsPartitionPoint (λ s. nat_lt s.key.layer id ≡ true) (λ s. nat_lt s.key.layer id ≡ false) xs i → i ≤ length xs
    → IsPartitionPoint (λ s. nat_le s.key.layer id ≡ true) (λ s. nat_le s.key.layer id ≡ false) (drop i xs) j → j ≤ length (drop i xs)
    → take j (drop i xs) ≡ filter (λ s. s.key.layer == id) xs
cut_out id [] zero zero s h t g = refl
cut_out id [] zero (suc j) s h t g = absurd (omega arith)
cut_out id [] (suc i) j s h t g = absurd (omega arith)
cut_out id (x ∷ xs) zero zero s h t g =
    let low : nat_lt x.key.layer id ≡ false = s.1 0 x (omega arith) (omega arith) in
    let high : nat_le x.key.layer id ≡ false = t.1 0 x (omega arith) (omega arith) in
    let other : x.key.layer == id ≡ false = grind (arith, nat_tests, low, high) in
    rw other (cut_out id xs zero zero ((λ k d l u. absurd (omega arith)), (λ k d l u. s.1 (suc k) d (omega arith) (omega arith))) (omega arith) ((λ k d l u. absurd (omega arith)), (λ k d l u. t.1 (suc k) d (omega arith) (omega arith))) (omega arith))
cut_out id (x ∷ xs) zero (suc j) s h t g =
    let low : nat_lt x.key.layer id ≡ false = s.1 0 x (omega arith) (omega arith) in
    let high : nat_le x.key.layer id ≡ true = t.0 0 x (omega arith) (omega arith) in
    let same : x.key.layer == id ≡ true = grind (arith, nat_tests, low, high) in
    rw same (ap (λ (ys : List ShownTile). x ∷ ys)
    (cut_out id xs zero j ((λ k d l u. absurd (omega arith)), (λ k d l u. s.1 (suc k) d (omega arith) (omega arith))) (omega arith) ((λ k d l u. t.0 (suc k) d (omega arith) (omega arith)), (λ k d l u. t.1 (suc k) d (omega arith) (omega arith))) (omega arith)))
cut_out id (x ∷ xs) (suc i) j s h t g =
    let low : nat_lt x.key.layer id ≡ true = s.0 0 x (omega arith) (omega arith) in
    let other : x.key.layer == id ≡ false = grind (arith, nat_tests, low) in
    rw other (cut_out id xs i j ((λ k d l u. s.0 (suc k) d (omega arith) (omega arith)), (λ k d l u. s.1 (suc k) d (omega arith) (omega arith))) (omega arith) t g)

pub cut_twice : (id : ℕ) (xs rest own : List ShownTile) (i j : ℕ) → rest ≡ drop i xs → own ≡ take j rest
    → IsPartitionPoint (λ s. nat_lt s.key.layer id ≡ true) (λ s. nat_lt s.key.layer id ≡ false) xs i → i ≤ length xs
    → IsPartitionPoint (λ s. nat_le s.key.layer id ≡ true) (λ s. nat_le s.key.layer id ≡ false) rest j → j ≤ length rest
    → own ≡ filter (λ s. s.key.layer == id) xs
cut_twice id xs rest own i j e f s h t g =
    f ∙ ap (λ (ys : List ShownTile). take j ys) e
    ∙ cut_out id xs i j s h (subst (λ (ys : List ShownTile). IsPartitionPoint (λ s. nat_le s.key.layer id ≡ true) (λ s. nat_le s.key.layer id ≡ false) ys j) e t) (subst (λ (ys : List ShownTile). j ≤ length ys) e g)

-- tiles after some others stand by rising layer too
pub rest_rises : (xs rest : List ShownTile) (i : ℕ) → rest ≡ drop i xs → IsNonDecreasingBy (λ s. s.key.layer) xs → IsNonDecreasingBy (λ s. s.key.layer) rest
rest_rises xs rest i e r = subst (λ (ys : List ShownTile). IsNonDecreasingBy (λ s. s.key.layer) ys) (sym e) (IsNonDecreasingBy-drop (λ s. s.key.layer) i xs r)

-- the tiles of one layer, with their images
pub own_shown : (id : ℕ) (shown : List ShownTile) → map tile_of (filter (λ s. s.key.layer == id) shown) ≡ own_tiles id (map tile_of shown)
own_shown id [] = refl
own_shown id (s ∷ ss) = go (s.key.layer == id) (own_shown id ss)
  where
    go : (b : Bool) → map tile_of (filter (λ t. t.key.layer == id) ss) ≡ own_tiles id (map tile_of ss)
        → map tile_of (cond b (s ∷ filter (λ t. t.key.layer == id) ss) (filter (λ t. t.key.layer == id) ss)) ≡ cond b (tile_of s ∷ own_tiles id (map tile_of ss)) (own_tiles id (map tile_of ss))
    go true rest = ap (λ ts. tile_of s ∷ ts) rest
    go false rest = rest

-- what holds of each tile of this layer holds of each that was looked up
pub own_all : (P : ShownTile → Type 0) (id : ℕ) (shown own : List ShownTile) → own ≡ filter (λ s. s.key.layer == id) shown → All (λ s. s.key.layer ≡ id → P s) shown → All P own
own_all P id shown own is each =
    All-same P own (filter (λ s. s.key.layer == id) shown) is
    (λ k d lt. All-filter (λ s. s.key.layer == id) (λ s. s.key.layer ≡ id → P s) shown each k d lt (eqb-true _ id (filter_passes (λ s. s.key.layer == id) shown k d lt)))
