-- Equal stamps of a place in two pages mean that no frame between changed it.
use Rattle.std.proofs.Common.{ℕ, zero, suc, ◌≡◌, ◌+◌, ◌<◌, ◌==◌, Bool, true, false, ◌&&◌, if◌then◌else◌, Option, Some, None, List, refl, ap, sym, ◌∙◌, subst, arith, eqb-true}
use Rattle.std.specs.Prelude.{is_some, option_map, unwrap_or}
use Rattle.std.specs.List.{find}
use Rattle.geom.specs.declared.rect.Rect.{Rect}
use Rattle.geom.specs.declared.tile.Place.{Place}
use Rattle.geom.specs.declared.tile.TileKey.{TileKey}
use Rattle.geom.specs.Grids.{rect_of_place, places}
use Rattle.geom.specs.Sides.{Sides}
use Rattle.tile_tiling.specs.Stamps.{Commit, changes_in, last_that}
use Rattle.page_layers.specs.Layers.{PageLayer, has_id}
use Rattle.page_layers.specs.Pages.{Page}
use Rattle.page_layers.specs.Refusals.{has_layer}
use Rattle.page_layers.specs.Contents.{size_of}
use Rattle.page_layers.specs.Sound.{AreDistinctLayers}
use Rattle.page_layers.specs.declared.moves.Move.{Move}
use Rattle.model_history.specs.Scripts.{ScriptModel}
use Rattle.tile_visible.specs.Visible.{grid_of}
use Rattle.model_history.specs.Frames.{commands_of, page}
use Rattle.model_history.specs.Accepted.{IsPlayable}
use Rattle.model_history.specs.Stamps.{unchanged, frame_changes, commits_to, place_rect, stamp_in}
use Rattle.geom.specs.KeyLists.{has_key}
use Rattle.model_history.specs.Tiles.{page_keys}
use Rattle.model_history.specs.Ranking.{place_named}
use Rattle.model_history.specs.Sharing.{key_rect}
use Rattle.model_history.proofs.BoolFacts.{and_right}
use Rattle.model_history.proofs.BarePages.{bare, no_pulls, rect_in, page_bare, stamp_alike}
use Rattle.model_history.proofs.FindKeys.{has_place, key_on, key_of_page}
use Rattle.model_history.proofs.ScriptPages.{ahead, ahead_is, plain, plain_takes, plain_page}
use Rattle.model_history.proofs.LayersStay.{layer_between}
use Rattle.model_history.proofs.FrameKeeps.{KeepsLayer, keeps_same, keeps_then, commanded_keeps}

-- ---- frames that do not pass a test

-- what main frame k changed
abbrev commit_at : ScriptModel → ℕ → Commit
commit_at s k = record { frame = k; changed = frame_changes s no_pulls k }

-- the last of the first n frames that passes the test; 0 where none does
abbrev last_value : (Commit → Bool) → ScriptModel → ℕ → ℕ
last_value test s n = unwrap_or (last_that test (commits_to s no_pulls n)) 0

-- of the d frames from m on none passes the test
abbrev QuietFor : (Commit → Bool) → ScriptModel → ℕ → ℕ → Type 0
QuietFor test s zero m = Unit {0}
QuietFor test s (suc d) m = QuietFor test s d m × (test (commit_at s (ahead d m)) ≡ false)

value_below : (test : Commit → Bool) (s : ScriptModel) (k : ℕ) → last_value test s (suc k) < suc k
value_below test s zero = go (test (commit_at s zero))
  where
    go : (b : Bool) → unwrap_or (if b then Some zero else None) 0 < suc zero
    go true = omega arith
    go false = omega arith
value_below test s (suc k) = go (test (commit_at s (suc k))) (value_below test s k)
  where
    go : (b : Bool) → last_value test s (suc k) < suc k → unwrap_or (if b then Some (suc k) else last_that test (commits_to s no_pulls (suc k))) 0 < suc (suc k)
    go true rest = omega arith
    go false rest = omega (arith, rest)

value_quiet : (test : Commit → Bool) (s : ScriptModel) (d m : ℕ) → last_value test s (ahead d m) < m → QuietFor test s d m × (last_value test s (ahead d m) ≡ last_value test s m)
value_quiet test s zero m lt = (tt, refl)
value_quiet test s (suc d) m lt = go (test (commit_at s (ahead d m))) refl lt (value_quiet test s d m)
  where
    go : (b : Bool) → test (commit_at s (ahead d m)) ≡ b → unwrap_or (if b then Some (ahead d m) else last_that test (commits_to s no_pulls (ahead d m))) 0 < m
        → (last_value test s (ahead d m) < m → QuietFor test s d m × (last_value test s (ahead d m) ≡ last_value test s m))
        → (QuietFor test s d m × (test (commit_at s (ahead d m)) ≡ false)) × (unwrap_or (if b then Some (ahead d m) else last_that test (commits_to s no_pulls (ahead d m))) 0 ≡ last_value test s m)
    go true e lt rest = let is : ahead d m ≡ d + m = ahead_is d m in absurd (omega (arith, is, lt))
    go false e lt rest = let r : QuietFor test s d m × (last_value test s (ahead d m) ≡ last_value test s m) = rest lt in ((r.0, e), r.1)

-- a layer that is there before and after frames that do not change what it shows in a rect
pages_keep : (s : ScriptModel) → IsPlayable s → (layer : ℕ) (r : Rect) (d m : ℕ) → has_layer layer (plain s m).layers ≡ true → has_layer layer (plain s (ahead d m)).layers ≡ true
    → QuietFor (changes_in layer r) s d m → KeepsLayer layer r (plain s m) (plain s (ahead d m))
pages_keep s a layer r zero m before last quiet = keeps_same layer r (plain s m)
pages_keep s a layer r (suc d) m before last quiet =
    let k : ℕ = ahead d m in
    let there : has_layer layer (plain s k).layers ≡ true = layer_between s a layer (suc zero) d m before last in
    let step = commanded_keeps (commands_of s k) (plain s k) layer r unchanged (plain_page s a k) (plain_takes s a k) tt there last quiet.1 in
    keeps_then layer r (plain s m) (plain s k) (plain s (suc k)) (pages_keep s a layer r d m before there quiet.0) step.1

-- ---- grids that are cut alike

abbrev size_in : Option PageLayer → Option (ℕ × ℕ)
size_in o = option_map (λ l. (l.w, l.h)) o

grid_same : (p q : Page) (l k : PageLayer) → size_in (Some k) ≡ size_in (Some l) → q.view.tile ≡ p.view.tile → grid_of q k ≡ grid_of p l
grid_same p q l k size tile =
    let w : k.w ≡ l.w = ap (λ (o : Option (ℕ × ℕ)). unwrap_or (option_map (λ z. z.0) o) 0) size in
    let h : k.h ≡ l.h = ap (λ (o : Option (ℕ × ℕ)). unwrap_or (option_map (λ z. z.1) o) 0) size in
    ap (λ (n : ℕ). sides n k.h q.view.tile) w ∙ ap (λ (n : ℕ). sides l.w n q.view.tile) h ∙ ap (λ (n : ℕ). sides l.w l.h n) tile
  where
    sides : ℕ → ℕ → ℕ → Sides
    sides w h tile = record { w = w; h = h; tile = tile }

rect_same : (p q : Page) (place : Place) (o u : Option PageLayer) → size_in u ≡ size_in o → q.view.tile ≡ p.view.tile → place_rect q place u ≡ place_rect p place o
rect_same p q place None None size tile = refl
rect_same p q place None (Some k) size tile = absurd (cc)
rect_same p q place (Some l) None size tile = absurd (cc)
rect_same p q place (Some l) (Some k) size tile = ap (λ (g : Sides). rect_of_place g place) (grid_same p q l k size tile)

pub rect_kept : (p q : Page) (layer : ℕ) (place : Place) → size_of q layer ≡ size_of p layer → q.view.tile ≡ p.view.tile → rect_in q layer place ≡ rect_in p layer place
rect_kept p q layer place size tile = rect_same p q place (find (has_id layer) p.layers) (find (has_id layer) q.layers) size tile

on_same : (p q : Page) (st su : ℕ → Place → ℕ) (key : TileKey) (o u : Option PageLayer) → size_in u ≡ size_in o → q.view.tile ≡ p.view.tile → su key.layer (place_named key) ≡ st key.layer (place_named key)
    → key_on q su key u ≡ key_on p st key o
on_same p q st su key None None size tile stamp = refl
on_same p q st su key None (Some k) size tile stamp = absurd (cc)
on_same p q st su key (Some l) None size tile stamp = absurd (cc)
on_same p q st su key (Some l) (Some k) size tile stamp =
    ap (λ (g : Sides). has_place (places g) (place_named key) && (su key.layer (place_named key) == key.stamp)) (grid_same p q l k size tile)
    ∙ ap (λ (n : ℕ). has_place (places (grid_of p l)) (place_named key) && (n == key.stamp)) stamp

-- ---- keys of pages

-- the key is one of page n
abbrev pub plain_key : ScriptModel → ℕ → TileKey → Bool
plain_key s n q = key_on (plain s n) (stamp_in s no_pulls n) q (find (has_id q.layer) (plain s n).layers)

on_there : (p : Page) (st : ℕ → Place → ℕ) (q : TileKey) (o : Option PageLayer) → key_on p st q o ≡ true → (is_some o ≡ true) × (st q.layer (place_named q) ≡ q.stamp)
on_there p st q None h = absurd (cc)
on_there p st q (Some l) h = (refl, eqb-true (st q.layer (place_named q)) q.stamp (and_right (has_place (places (grid_of p l)) (place_named q)) (st q.layer (place_named q) == q.stamp) h))

key_there : (s : ScriptModel) (n : ℕ) (q : TileKey) → plain_key s n q ≡ true → (has_layer q.layer (plain s n).layers ≡ true) × (stamp_in s no_pulls n q.layer (place_named q) ≡ q.stamp)
key_there s n q h = on_there (plain s n) (stamp_in s no_pulls n) q (find (has_id q.layer) (plain s n).layers) h

stamp_is : (s : ScriptModel) (n : ℕ) (q : TileKey) → stamp_in s no_pulls n q.layer (place_named q) ≡ last_value (changes_in q.layer (key_rect (plain s n) q)) s n
unfolding stamp_in
stamp_is s n q = refl

-- a key of two pages is a key of each page between, and its place shows there what it showed before
pub record IsKept (s : ScriptModel) (q : TileKey) (m k : ℕ) : Type 0 where
  pub key : plain_key s k q ≡ true
  pub rect : key_rect (plain s k) q ≡ key_rect (plain s m) q
  pub keeps : KeepsLayer q.layer (key_rect (plain s m) q) (plain s m) (plain s k)

pub key_between : (s : ScriptModel) → IsPlayable s → (q : TileKey) (e d m : ℕ) → plain_key s m q ≡ true → plain_key s (ahead e (ahead d m)) q ≡ true → IsKept s q m (ahead d m)
key_between s a q e d zero first last = absurd (cc)
key_between s a q e d (suc j) first last =
    let m : ℕ = suc j in
    let k : ℕ = ahead d m in
    let n : ℕ = ahead e k in
    let r : Rect = key_rect (plain s n) q in
    let there_m = key_there s m q first in
    let there_n = key_there s n q last in
    let value_m : last_value (changes_in q.layer (key_rect (plain s m) q)) s m ≡ q.stamp = sym (stamp_is s m q) ∙ there_m.1 in
    let value_n : last_value (changes_in q.layer r) s n ≡ q.stamp = sym (stamp_is s n q) ∙ there_n.1 in
    let below : q.stamp < m = subst (λ (v : ℕ). v < m) value_m (value_below (changes_in q.layer (key_rect (plain s m) q)) s j) in
    let ahead_k : k ≡ d + m = ahead_is d m in
    let quiet_e = value_quiet (changes_in q.layer r) s e k (omega (arith, value_n, below, ahead_k)) in
    let quiet_d = value_quiet (changes_in q.layer r) s d m (omega (arith, value_n, below, quiet_e.1)) in
    let there_k : has_layer q.layer (plain s k).layers ≡ true = layer_between s a q.layer e d m there_m.0 there_n.0 in
    let keep_d : KeepsLayer q.layer r (plain s m) (plain s k) = pages_keep s a q.layer r d m there_m.0 there_k quiet_d.0 in
    let keep_e : KeepsLayer q.layer r (plain s k) (plain s n) = pages_keep s a q.layer r e k there_k there_n.0 quiet_e.0 in
    let rect_d : key_rect (plain s k) q ≡ key_rect (plain s m) q = rect_kept (plain s m) (plain s k) q.layer (place_named q) keep_d.size keep_d.tile in
    let rect_e : r ≡ key_rect (plain s k) q = rect_kept (plain s k) (plain s n) q.layer (place_named q) keep_e.size keep_e.tile in
    let value_k : last_value (changes_in q.layer (key_rect (plain s k) q)) s k ≡ last_value (changes_in q.layer (key_rect (plain s m) q)) s m =
    ap (λ (z : Rect). last_value (changes_in q.layer z) s k) (sym rect_e) ∙ quiet_d.1 ∙ ap (λ (z : Rect). last_value (changes_in q.layer z) s m) (rect_e ∙ rect_d) in
    let stamp_k : stamp_in s no_pulls k q.layer (place_named q) ≡ stamp_in s no_pulls m q.layer (place_named q) = stamp_is s k q ∙ value_k ∙ sym (stamp_is s m q) in
    record {
      key = on_same (plain s m) (plain s k) (stamp_in s no_pulls m) (stamp_in s no_pulls k) q (find (has_id q.layer) (plain s m).layers) (find (has_id q.layer) (plain s k).layers) keep_d.size keep_d.tile stamp_k ∙ first;
      rect = rect_d;
      keeps = subst (λ (z : Rect). KeepsLayer q.layer z (plain s m) (plain s k)) (rect_e ∙ rect_d) keep_d;
    }

-- ---- pages with pulls

-- the keys of a page do not depend on pulls
pub keys_plain : (s : ScriptModel) → IsPlayable s → (ps : ℕ → List Move) (n : ℕ) (q : TileKey) → has_key (page_keys (page s ps n) (stamp_in s ps n)) q ≡ plain_key s n q
keys_plain s a ps n q =
    let same : bare (page s ps n) ≡ bare (plain s n) = page_bare s ps n in
    key_of_page (page s ps n) (stamp_in s ps n) q (subst (λ (z : Page). AreDistinctLayers z.layers) (sym same) (plain_page s a n).distinct)
    ∙ on_same (plain s n) (page s ps n) (stamp_in s no_pulls n) (stamp_in s ps n) q (find (has_id q.layer) (plain s n).layers) (find (has_id q.layer) (page s ps n).layers)
    (ap (λ (z : Page). size_of z q.layer) same) (ap (λ (z : Page). z.view.tile) same) (stamp_alike s ps n q.layer (place_named q))
