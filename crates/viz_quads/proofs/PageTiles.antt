-- The layers of a page are found by their ids, their grids are sound, and the places that they show are in their grids.
use Rattle.std.proofs.Common.{ℕ, zero, suc, ◌≡◌, ◌+◌, ◌<◌, ◌==◌, nat_lt, Bool, true, false, cond, Some, List, [], ◌∷◌, map, find, All, refl, ap, ◌∙◌, eqb-true, arith}
use Rattle.std.specs.Prelude.{is_some, IsTrue}
use Rattle.std.specs.List.{flat_map, range_with_len, AllByRecursion}
use Rattle.std.proofs.lemmas.Bool.Decides.{nat_tests}
use Rattle.std.proofs.lemmas.List.Elements.{All-nil, All-cons, All-append, All-weaker, All-filter, All-same}
use Rattle.geom.specs.declared.rect.Point.{Point}
use Rattle.geom.specs.declared.tile.Place.{Place}
use Rattle.geom.specs.Grids.{tiles, has, place, places_in_row, places}
use Rattle.geom.specs.Sides.{Sides, IsLayerSide, IsGrid}
use Rattle.geom.proofs.Spans.{both_of}
use Rattle.page_layers.specs.Layers.{PageLayer, has_id}
use Rattle.page_layers.specs.Pages.{Page, IsView}
use Rattle.page_layers.specs.Refusals.{has_layer}
use Rattle.page_layers.specs.Sound.{AreDistinctLayers, IsLayer, IsPage}
use Rattle.page_layers.proofs.Placing.{size_facts}
use Rattle.tile_priority.specs.Bins.{is_visible}
use Rattle.tile_visible.specs.Visible.{grid_of, seen, visible_places}
use Rattle.viz_quads.specs.declared.shown_tile.ShownTile.{ShownTile}
use Rattle.viz_quads.specs.ShownTiles.{PageTile, tile_of, place_of_tile, own_tiles, AreShownTiles}
use Rattle.viz_quads.proofs.Lists.{all_mapped, all_kept}
use Rattle.viz_quads.proofs.OwnTiles.{own_places}

-- ---- layers by their ids

pub found_each : (ls : List PageLayer) → AreDistinctLayers ls → All (λ l. find (has_id l.id) ls ≡ Some l) ls
found_each [] d = All-nil (λ l. find (has_id l.id) [] ≡ Some l)
found_each (k ∷ ks) d =
    All-cons (λ l. find (has_id l.id) (k ∷ ks) ≡ Some l) k ks (own (k.id == k.id) (grind (arith, nat_tests)))
    (All-weaker (λ l. find (has_id l.id) ks ≡ Some l) (λ l. find (has_id l.id) (k ∷ ks) ≡ Some l) (λ l e. other l (k.id == l.id) refl e) ks (found_each ks d.1))
  where
    own : (b : Bool) → b ≡ true → cond b (Some k) (find (has_id k.id) ks) ≡ Some k
    own true e = refl
    own false e = absurd (cc)

    other : (l : PageLayer) (b : Bool) → (k.id == l.id) ≡ b → find (has_id l.id) ks ≡ Some l → cond b (Some k) (find (has_id l.id) ks) ≡ Some l
    other l true is e =
        let there : has_layer k.id ks ≡ true = ap (λ (n : ℕ). has_layer n ks) (eqb-true k.id l.id is) ∙ ap is_some e in
        absurd (let gone = d.0 in cc)
    other l false is e = e

-- ---- grids

pub grid_sound : (p : Page) (l : PageLayer) → IsView p.view → IsLayerSide l.w × IsLayerSide l.h → IsGrid (grid_of p l)
grid_sound p l view sized = record { wide = sized.0; tall = sized.1; cut = record { low = omega (arith, view.tile_low); high = omega (arith, view.tile_high) } }

sized_each : (p : Page) (ls : List PageLayer) → AllByRecursion (IsLayer p.props p.used) ls → All (λ l. IsLayerSide l.w × IsLayerSide l.h) ls
sized_each p [] h = All-nil (λ l. IsLayerSide l.w × IsLayerSide l.h)
sized_each p (l ∷ ls) h = All-cons (λ l. IsLayerSide l.w × IsLayerSide l.h) l ls (size_facts l.w l.h h.0.size) (sized_each p ls h.1)

pub grids_sound : (p : Page) → IsPage p → All (λ l. IsGrid (grid_of p l)) p.layers
grids_sound p is = All-weaker (λ l. IsLayerSide l.w × IsLayerSide l.h) (λ l. IsGrid (grid_of p l)) (λ l s. grid_sound p l is.view s) p.layers (sized_each p p.layers is.layers)

-- ---- places

row_has : (P : Place → Type 0) (y a n : ℕ) → ((x : ℕ) → x < a + n → P (place y x)) → All P (map (place y) (range_with_len a n))
row_has P y a zero f = All-nil P
row_has P y a (suc n) f = All-cons P (place y a) (map (place y) (range_with_len (a + 1) n)) (f a (omega arith)) (row_has P y (a + 1) n (λ x lt. f x (omega (arith, lt))))

rows_have : (P : Place → Type 0) (g : Sides) (a n : ℕ) → ((y : ℕ) → y < a + n → All P (places_in_row g y)) → All P (flat_map (places_in_row g) (range_with_len a n))
rows_have P g a zero f = All-nil P
rows_have P g a (suc n) f = All-append P (places_in_row g a) (flat_map (places_in_row g) (range_with_len (a + 1) n)) (f a (omega arith)) (rows_have P g (a + 1) n (λ y lt. f y (omega (arith, lt))))

places_have : (g : Sides) → All (λ q. has g q ≡ true) (places g)
places_have g =
    rows_have (λ q. has g q ≡ true) g 0 (tiles g.h g.tile)
    (λ y down. row_has (λ q. has g q ≡ true) y 0 (tiles g.w g.tile)
    (λ x across. both_of (nat_lt x (tiles g.w g.tile)) (nat_lt y (tiles g.h g.tile)) (below x (tiles g.w g.tile) (omega (arith, across))) (below y (tiles g.h g.tile) (omega (arith, down)))))
  where
    below : (k n : ℕ) → k < n → nat_lt k n ≡ true
    below k n h = grind (arith, nat_tests)

-- a place that a layer shows is in its grid
pub seen_there : (p : Page) (offset : ℕ → Point) (l : PageLayer) → All (λ q. has (grid_of p l) q ≡ true) (visible_places p offset l)
unfolding visible_places
seen_there p offset l = All-filter (λ q. is_visible (seen p offset l q)) (λ q. has (grid_of p l) q ≡ true) (places (grid_of p l)) (places_have (grid_of p l))

pub own_there : (p : Page) (offset : ℕ → Point) (ts : List PageTile) (l : PageLayer) → AreShownTiles p offset ts → AreDistinctLayers p.layers → find (has_id l.id) p.layers ≡ Some l → All (λ t. has (grid_of p l) (place_of_tile t) ≡ true) (own_tiles l.id ts)
own_there p offset ts l right distinct found =
    all_mapped (λ q. has (grid_of p l) q ≡ true) place_of_tile (own_tiles l.id ts)
    (All-same (λ q. has (grid_of p l) q ≡ true) (map place_of_tile (own_tiles l.id ts)) (visible_places p offset l) (own_places p offset right.stamp ts l right.keys distinct found) (seen_there p offset l))

-- each tile of the layer names a place of its grid
pub named_there : (p : Page) (offset : ℕ → Point) (shown : List ShownTile) (l : PageLayer) → AreShownTiles p offset (map tile_of shown) → AreDistinctLayers p.layers → find (has_id l.id) p.layers ≡ Some l
    → All (λ s. s.key.layer ≡ l.id → IsTrue (has (grid_of p l) (place_of_tile (tile_of s)))) shown
named_there p offset shown l right distinct found =
    All-weaker (λ s. (s.key.layer == l.id) ≡ true → has (grid_of p l) (place_of_tile (tile_of s)) ≡ true) (λ s. s.key.layer ≡ l.id → IsTrue (has (grid_of p l) (place_of_tile (tile_of s))))
    (λ s f own. f (same s.key.layer l.id own)) shown
    (all_mapped (λ t. (t.key.layer == l.id) ≡ true → has (grid_of p l) (place_of_tile t) ≡ true) tile_of shown
    (all_kept (λ t. has (grid_of p l) (place_of_tile t) ≡ true) (λ t. t.key.layer == l.id) (map tile_of shown) (own_there p offset (map tile_of shown) l right distinct found)))
  where
    same : (n m : ℕ) → n ≡ m → (n == m) ≡ true
    same n m e = grind (arith, nat_tests)
