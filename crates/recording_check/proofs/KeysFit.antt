-- The keys of the tiles of a playable script fit the format.
use Rattle.std.proofs.Common.{◌≡◌, ◌⊎◌, inl, inr, ℕ, zero, suc, ◌<◌, ◌≤◌, ◌==◌, ◌||◌, Bool, true, false, cond, Option, Some, None, List, [], ◌∷◌, refl, ap, sym, ◌∙◌, subst, arith, Ok}
use Rattle.std.specs.Prelude.{ℤ, pos, ◌^◌, if◌then◌else◌, nat_lt, unwrap_or}
use Rattle.std.specs.List.{find, AllByRecursion}
use Rattle.geom.specs.declared.rect.Point.{Point}
use Rattle.geom.specs.declared.tile.Place.{Place}
use Rattle.geom.specs.declared.tile.TileKey.{TileKey}
use Rattle.geom.specs.Grids.{has, places, tiles}
use Rattle.geom.specs.KeyLists.{has_key}
use Rattle.geom.specs.Sides.{IsLayerSide}
use Rattle.geom.proofs.Cuts.{tiles_few}
use Rattle.tile_tiling.specs.Stamps.{Commit, last_that, changes_in}
use Rattle.page_layers.specs.declared.moves.Move.{Move}
use Rattle.page_layers.specs.Hits.{covers_point, last_covering, target}
use Rattle.page_layers.specs.Layers.{PageLayer, has_id}
use Rattle.page_layers.specs.Pages.{Page, IsView}
use Rattle.page_layers.specs.Sound.{IsLayer, AreDistinctLayers}
use Rattle.page_layers.specs.Tests.{check_range, is_id, is_size}
use Rattle.page_layers.proofs.LayerKeeps.{each-found}
use Rattle.page_layers.proofs.TestFacts.{passed, count_facts}
use Rattle.tile_visible.specs.Visible.{grid_of}
use Rattle.impl_ranks.proofs.GridPlaces.{place_had}
use Rattle.impl_ranks.proofs.SeenLayers.{has_in}
use Rattle.model_history.specs.declared.history.Entry.{Entry}
use Rattle.model_history.specs.Scripts.{ScriptModel}
use Rattle.model_history.specs.Accepted.{IsPlayable}
use Rattle.model_history.specs.EventFields.{sends}
use Rattle.model_history.specs.Frames.{page, pulls_of, up_to, active, pending}
use Rattle.model_history.specs.Legal.{Legal}
use Rattle.model_history.specs.Ranking.{place_named}
use Rattle.model_history.specs.Scans.{counted}
use Rattle.model_history.specs.Stamps.{commits_to, frame_changes, place_rect, stamp_in}
use Rattle.model_history.specs.Tiles.{page_keys, keys_of, active_tree, pending_tree, live_keys, made_so_far, ready, missing_visible, visible_in}
use Rattle.model_history.proofs.BarePages.{page_bare}
use Rattle.model_history.proofs.BoolFacts.{and_left, and_right, or_either, same_number, is_below}
use Rattle.model_history.proofs.Course.{course}
use Rattle.model_history.proofs.FindKeys.{has_place, key_on, key_of_page}
use Rattle.model_history.proofs.KeyFacts.{has_append, has_filter, has_in as key_has}
use Rattle.model_history.proofs.RangeBounds.{sent_few}
use Rattle.model_history.proofs.ScriptPages.{plain_page}
use Rattle.model_history.proofs.StampFacts.{visible_is_key}
use Rattle.recording_text.specs.Fits.{FitsKey, FitKeys}

-- ---- stamps: the numbers of frames

latest_below : (test : Commit → Bool) (s : ScriptModel) (ps : ℕ → List Move) (n : ℕ) → unwrap_or (last_that test (commits_to s ps n)) 0 ≤ n
latest_below test s ps zero = omega arith
latest_below test s ps (suc k) = go (test (record { frame = k; changed = frame_changes s ps k })) (latest_below test s ps k)
  where
    go : (b : Bool) → unwrap_or (last_that test (commits_to s ps k)) 0 ≤ k → unwrap_or (if b then Some k else last_that test (commits_to s ps k)) 0 ≤ suc k
    go true l = omega arith
    go false l = omega (arith, l)

stamp_below : (s : ScriptModel) (ps : ℕ → List Move) (n layer : ℕ) (place : Place) → stamp_in s ps n layer place ≤ n
unfolding stamp_in
stamp_below s ps n layer place = latest_below (changes_in layer (place_rect (page s ps n) place (find (has_id layer) (page s ps n).layers))) s ps n

-- ---- the keys of a page

-- the id that is looked for is that of the layer that is found
found_id : (id : ℕ) (ls : List PageLayer) (l : PageLayer) → find (has_id id) ls ≡ Some l → l.id ≡ id
found_id id [] l e = absurd cc
found_id id (k ∷ ks) l e = go (k.id == id) refl e (found_id id ks l)
  where
    go : (b : Bool) → (k.id == id) ≡ b → cond b (Some k) (find (has_id id) ks) ≡ Some l → (find (has_id id) ks ≡ Some l → l.id ≡ id) → l.id ≡ id
    go true t f rest = let same : k ≡ l = cc in ap (λ (z : PageLayer). z.id) (sym same) ∙ same_number k.id id t
    go false t f rest = rest f

-- the id of a layer, and its sides
low_id : (id : ℕ) → is_id id ≡ Ok tt → id ≤ 65535
unfolding is_id
low_id id ok = (count_facts id 1 65535 ok).1

sides_of : (w h : ℕ) → is_size w h ≡ Ok tt → IsLayerSide w × IsLayerSide h
unfolding is_size
sides_of w h ok =
    let first = passed (check_range (pos w) (pos 1) (pos 16384)) _ tt ok in
    let a = count_facts w 1 16384 first.1 in
    let b = count_facts h 1 16384 first.2 in
    (record { low = a.0; high = a.1 }, record { low = b.0; high = b.1 })

page_layers : (s : ScriptModel) (ps : ℕ → List Move) (n : ℕ) → IsPlayable s → AllByRecursion (IsLayer (page s ps n).props (page s ps n).used) (page s ps n).layers
page_layers s ps n playable = subst (λ (z : Page). AllByRecursion (IsLayer z.props z.used) z.layers) (sym (page_bare s ps n)) (plain_page s playable n).layers

module _ (s : ScriptModel) (ps : ℕ → List Move) (n : ℕ) (playable : IsPlayable s) (few : n < 2 ^ 32) where
  abbrev shown : Page
  shown = page s ps n

  distinct : AreDistinctLayers shown.layers
  distinct = subst (λ (z : Page). AreDistinctLayers z.layers) (sym (page_bare s ps n)) (plain_page s playable n).distinct

  view : IsView shown.view
  view = subst (λ (z : Page). IsView z.view) (sym (page_bare s ps n)) (plain_page s playable n).view

  tile_side : IsLayerSide shown.view.tile
  tile_side = record { low = omega (arith, view.tile_low); high = omega (arith, view.tile_high) }

  on_layer : (q : TileKey) (o : Option PageLayer) → find (has_id q.layer) shown.layers ≡ o → key_on shown (stamp_in s ps n) q o ≡ true → FitsKey q
  on_layer q None e on = absurd cc
  on_layer q (Some l) e on =
      let is : IsLayer shown.props shown.used l = each-found (IsLayer shown.props shown.used) (has_id q.layer) shown.layers l e (page_layers s ps n playable) in
      let id : l.id ≡ q.layer = found_id q.layer shown.layers l e in
      let low : l.id ≤ 65535 = low_id l.id is.id in
      let sides = sides_of l.w l.h is.size in
      let placed : has_place (places (grid_of shown l)) (place_named q) ≡ true = and_left (has_place (places (grid_of shown l)) (place_named q)) (stamp_in s ps n q.layer (place_named q) == q.stamp) on in
      let stamped : stamp_in s ps n q.layer (place_named q) ≡ q.stamp = same_number (stamp_in s ps n q.layer (place_named q)) q.stamp (and_right (has_place (places (grid_of shown l)) (place_named q)) (stamp_in s ps n q.layer (place_named q) == q.stamp) on) in
      let there : has (grid_of shown l) (place_named q) ≡ true = place_had (grid_of shown l) (place_named q) (has_in (places (grid_of shown l)) (place_named q) placed) in
      let column : q.x < tiles l.w shown.view.tile = is_below q.x (tiles l.w shown.view.tile) (and_left (nat_lt q.x (tiles l.w shown.view.tile)) (nat_lt q.y (tiles l.h shown.view.tile)) there) in
      let row : q.y < tiles l.h shown.view.tile = is_below q.y (tiles l.h shown.view.tile) (and_right (nat_lt q.x (tiles l.w shown.view.tile)) (nat_lt q.y (tiles l.h shown.view.tile)) there) in
      let columns = tiles_few l.w shown.view.tile sides.0 tile_side in
      let rows = tiles_few l.h shown.view.tile sides.1 tile_side in
      let stamp = stamp_below s ps n q.layer (place_named q) in
      (omega (arith, id, low), omega (arith, column, columns), omega (arith, row, rows), omega (arith, stamped, stamp, few))

  pub key_fits : (q : TileKey) → has_key (page_keys shown (stamp_in s ps n)) q ≡ true → FitsKey q
  key_fits q there = on_layer q (find (has_id q.layer) shown.layers) refl (sym (key_of_page shown (stamp_in s ps n) q distinct) ∙ there)

-- ---- the keys of the active and of the pending tree

up_to_few : (o : Option ℕ) (m : ℕ) → ((k : ℕ) → o ≡ Some k → k < m) → up_to o ≤ m
up_to_few None m f = omega arith
up_to_few (Some k) m f = let l = f k refl in omega (arith, l)

module _ (s : ScriptModel) (workers : ℕ) (h : List Entry) (playable : IsPlayable s) (legal : Legal s workers h) where
  pub frames : counted sends h < 2 ^ 32
  frames = let a = playable.few_frames in let b = sent_few s workers h legal in omega (arith, a, b)

  active_few : up_to (active h) < 2 ^ 32
  active_few =
      let c = course s workers h legal in
      let l = up_to_few (active h) (counted sends h) (λ k e. c.committed_below k (c.activated_committed k (c.active_activated k e))) in
      omega (arith, l, frames)

  pending_few : up_to (pending h) < 2 ^ 32
  pending_few =
      let c = course s workers h legal in
      let l = up_to_few (pending h) (counted sends h) (λ k e. c.committed_below k (c.pending_committed k e)) in
      omega (arith, l, frames)

  active_key_fits : (q : TileKey) → has_key (keys_of (active_tree s h)) q ≡ true → FitsKey q
  active_key_fits = key_fits s (pulls_of h) (up_to (active h)) playable active_few

  pending_key_fits : (q : TileKey) → has_key (keys_of (pending_tree s h)) q ≡ true → FitsKey q
  pending_key_fits = key_fits s (pulls_of h) (up_to (pending h)) playable pending_few

  pub live_key_fits : (q : TileKey) → has_key (live_keys s h) q ≡ true → FitsKey q
  live_key_fits q there = by_or (or_either (has_key (keys_of (active_tree s h)) q) (has_key (keys_of (pending_tree s h)) q) (sym (has_append (keys_of (active_tree s h)) (keys_of (pending_tree s h)) q) ∙ there))
    where
      by_or : (has_key (keys_of (active_tree s h)) q ≡ true) ⊎ (has_key (keys_of (pending_tree s h)) q ≡ true) → FitsKey q
      by_or (inl t) = active_key_fits q t
      by_or (inr t) = pending_key_fits q t

  pub ready_key_fits : (q : TileKey) → has_key (ready s h) q ≡ true → FitsKey q
  ready_key_fits q there = live_key_fits q (and_right (has_key (made_so_far h) q) (has_key (live_keys s h) q) (sym (has_filter (has_key (live_keys s h)) (made_so_far h) q) ∙ there))

  pub missing_key_fits : (q : TileKey) → has_key (missing_visible s h) q ≡ true → FitsKey q
  missing_key_fits q there =
      active_key_fits q (visible_is_key (active_tree s h).page (active_tree s h).offset (active_tree s h).stamp q
      (and_left (has_key (visible_in (active_tree s h)) q) _ (sym (has_filter _ (visible_in (active_tree s h)) q) ∙ there)))

-- ---- layers that a wheel hits

-- the id of the last layer that passes a test
last_low : (p : Page) (used : Page → List ℕ) (test : PageLayer → Bool) (ls : List PageLayer) → AllByRecursion (IsLayer p.props (used p)) ls → last_covering test ls ≤ 65535
last_low p used test [] all = omega arith
last_low p used test (l ∷ ls) all = go (last_covering test ls == 0) (test l) (last_low p used test ls all.1)
  where
    id : l.id ≤ 65535
    id = low_id l.id all.0.id

    go : (a b : Bool) → last_covering test ls ≤ 65535 → cond a (cond b l.id 0) (last_covering test ls) ≤ 65535
    go true true rest = id
    go true false rest = omega arith
    go false b rest = rest

pub target_low : (s : ScriptModel) (ps : ℕ → List Move) (n : ℕ) → IsPlayable s → (offset : ℕ → Point) (x y : ℤ) → target (page s ps n) offset x y ≤ 65535
unfolding target
target_low s ps n playable offset x y = last_low (page s ps n) (λ p. p.used) (covers_point (page s ps n) offset x y) (page s ps n).layers (page_layers s ps n playable)

-- ---- lists of keys

-- the keys of a list fit where each that it has does
pub keys_fit : (ks : List TileKey) → ((q : TileKey) → has_key ks q ≡ true → FitsKey q) → FitKeys ks
keys_fit [] each = tt
keys_fit (k ∷ ks) each = (each k (key_has (k ∷ ks) k (inl refl)), keys_fit ks (λ q there. each q (later q there)))
  where
    later : (q : TileKey) → has_key ks q ≡ true → has_key (k ∷ ks) q ≡ true
    later q there = has_append (k ∷ []) ks q ∙ or_true (has_key (k ∷ []) q) (has_key ks q) there
      where
        or_true : (a b : Bool) → b ≡ true → a || b ≡ true
        or_true true b t = refl
        or_true false b t = t
