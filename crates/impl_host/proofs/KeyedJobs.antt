-- A key of a page has its job there.
use Rattle.std.proofs.Common.{◌≡◌, ◌⊎◌, inl, inr, ℕ, zero, suc, ◌+◌, ◌<◌, ◌==◌, true, cond, ◌&&◌, Option, Some, None, option_map, List, [], ◌∷◌, ◌++◌, map, flat_map, refl, sym, ◌∙◌, ap, subst, arith}
use Rattle.std.specs.Prelude.{nat_lt}
use Rattle.std.specs.List.{find, range_with_len}
use Rattle.geom.specs.declared.rect.Rect.{Rect}
use Rattle.geom.specs.declared.tile.Place.{Place}
use Rattle.geom.specs.declared.tile.TileKey.{TileKey}
use Rattle.geom.specs.Grids.{tiles, has, place, places_in_row, places, rect_of_place}
use Rattle.geom.specs.Sides.{Sides}
use Rattle.tile_raster.specs.Images.{Image}
use Rattle.page_layers.specs.Layers.{PageLayer, has_id}
use Rattle.page_layers.specs.Pages.{Page}
use Rattle.page_layers.specs.Sound.{AreDistinctLayers}
use Rattle.page_layers.specs.declared.moves.Move.{Move}
use Rattle.tile_visible.specs.Visible.{grid_of}
use Rattle.model_history.specs.Scripts.{ScriptModel}
use Rattle.model_history.specs.Frames.{page}
use Rattle.model_history.specs.Accepted.{IsPlayable}
use Rattle.model_history.specs.Stamps.{place_rect, stamp_in}
use Rattle.model_history.specs.Sharing.{has_page_key, key_rect}
use Rattle.model_history.specs.Ranking.{place_named}
use Rattle.model_history.proofs.BoolFacts.{and_left, and_right, and_both, or_either, same_number, below}
use Rattle.model_history.proofs.BarePages.{page_bare}
use Rattle.model_history.proofs.ScriptPages.{plain_page}
use Rattle.model_history.proofs.FindKeys.{has_place, key_on, key_of_page}
use Rattle.model_steps.specs.ShownKeys.{KeyShows}
use Rattle.model_steps.proofs.KeysShown.{layer_shows}
use Rattle.impl_host.specs.Jobs.{picture_on, job_in}

-- a place among those of a grid is one that the grid has

abbrev Each : (Place → Type 0) → List Place → Type 0
Each P [] = Unit {0}
Each P (q ∷ qs) = P q × Each P qs

each_append : (P : Place → Type 0) (ps qs : List Place) → Each P ps → Each P qs → Each P (ps ++ qs)
each_append P [] qs i j = j
each_append P (p ∷ ps) qs i j = (i.0, each_append P ps qs i.1 j)

row_each : (P : Place → Type 0) (y a n : ℕ) → ((x : ℕ) → x < a + n → P (place y x)) → Each P (map (place y) (range_with_len a n))
row_each P y a zero f = tt
row_each P y a (suc n) f = (f a (omega arith), row_each P y (a + 1) n (λ x lt. f x (omega (arith, lt))))

rows_each : (P : Place → Type 0) (g : Sides) (a n : ℕ) → ((y : ℕ) → y < a + n → Each P (places_in_row g y)) → Each P (flat_map (places_in_row g) (range_with_len a n))
rows_each P g a zero f = tt
rows_each P g a (suc n) f = each_append P (places_in_row g a) (flat_map (places_in_row g) (range_with_len (a + 1) n)) (f a (omega arith)) (rows_each P g (a + 1) n (λ y lt. f y (omega (arith, lt))))

each_place : (g : Sides) → Each (λ (q : Place). has g q ≡ true) (places g)
each_place g =
    rows_each (λ (q : Place). has g q ≡ true) g 0 (tiles g.h g.tile)
    (λ y down. row_each (λ (q : Place). has g q ≡ true) y 0 (tiles g.w g.tile)
    (λ x across. and_both (nat_lt x (tiles g.w g.tile)) (nat_lt y (tiles g.h g.tile)) (below x (tiles g.w g.tile) (omega (arith, across))) (below y (tiles g.h g.tile) (omega (arith, down)))))

among : (P : Place → Type 0) (q : Place) (ps : List Place) → Each P ps → has_place ps q ≡ true → P q
among P q [] e h = absurd cc
among P q (p ∷ ps) e h = by_or (or_either ((p.x == q.x) && (p.y == q.y)) (has_place ps q) h) (among P q ps e.1)
  where
    by_or : (((p.x == q.x) && (p.y == q.y)) ≡ true) ⊎ (has_place ps q ≡ true) → (has_place ps q ≡ true → P q) → P q
    by_or (inl t) f =
        let x : p.x ≡ q.x = same_number p.x q.x (and_left (p.x == q.x) (p.y == q.y) t) in
        let y : p.y ≡ q.y = same_number p.y q.y (and_right (p.x == q.x) (p.y == q.y) t) in
        let s : p ≡ q = λ i. record { x = x i; y = y i } in
        subst P s e.0
    by_or (inr t) f = f t

placed : (g : Sides) (q : Place) → has_place (places g) q ≡ true → has g q ≡ true
placed g q h = among (λ (p : Place). has g p ≡ true) q (places g) (each_place g) h

-- the job of a key

module _ (s : ScriptModel) (ps : ℕ → List Move) (n : ℕ) (q : TileKey) (acc : IsPlayable s) (has_it : has_page_key s ps n q ≡ true) where
  abbrev shown : Page
  shown = page s ps n

  distinct : AreDistinctLayers shown.layers
  distinct = subst (λ (z : Page). AreDistinctLayers z.layers) (sym (page_bare s ps n)) (plain_page s acc n).distinct

  on_layer : key_on shown (stamp_in s ps n) q (find (has_id q.layer) shown.layers) ≡ true
  on_layer = sym (key_of_page shown (stamp_in s ps n) q distinct) ∙ has_it

  by_layer : (o : Option PageLayer) → find (has_id q.layer) shown.layers ≡ o → key_on shown (stamp_in s ps n) q o ≡ true
      → (i : Image) × (picture_on shown q o ≡ Some i) × (i.key ≡ q) × KeyShows s q i.rect i.list
  by_layer None e on = absurd cc
  by_layer (Some l) e on =
      let there : has (grid_of shown l) (place_named q) ≡ true = placed (grid_of shown l) (place_named q) (and_left (has_place (places (grid_of shown l)) (place_named q)) (stamp_in s ps n q.layer (place_named q) == q.stamp) on) in
      let i : Image = record { key = q; rect = rect_of_place (grid_of shown l) (place_named q); list = l.items } in
      let made : picture_on shown q (Some l) ≡ Some i =
      ap (λ b. option_map (λ r. record { key = q; rect = r; list = l.items }) (cond b (Some (rect_of_place (grid_of shown l) (place_named q))) None)) there in
      let rect : key_rect shown q ≡ rect_of_place (grid_of shown l) (place_named q) = ap (place_rect shown (place_named q)) e in
      (i, made, refl, subst (λ (r : Rect). KeyShows s q r l.items) rect (layer_shows s ps n q l acc has_it e))

  pub job_shows : (i : Image) × (job_in shown q ≡ Some i) × (i.key ≡ q) × KeyShows s q i.rect i.list
  job_shows = by_layer (find (has_id q.layer) shown.layers) refl on_layer
