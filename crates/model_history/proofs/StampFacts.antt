-- Keys of pages: they depend on the pulls below the page alone, and visible keys are among them.
use Rattle.std.proofs.Common.{◌≡◌, ◌⊎◌, inl, inr, ℕ, zero, suc, ◌<◌, Bool, true, false, cond, ◌||◌, List, [], ◌∷◌, ◌++◌, map, filter, flat_map, find, unwrap_or, refl, sym, ◌∙◌, arith}
use Rattle.geom.specs.declared.rect.Point.{Point}
use Rattle.geom.specs.declared.tile.Place.{Place}
use Rattle.geom.specs.declared.tile.TileKey.{TileKey}
use Rattle.geom.specs.Grids.{places}
use Rattle.tile_priority.specs.Bins.{is_visible}
use Rattle.tile_tiling.specs.Stamps.{stamp_of}
use Rattle.page_layers.specs.Layers.{PageLayer, has_id}
use Rattle.page_layers.specs.Pages.{Page}
use Rattle.page_layers.specs.declared.moves.Move.{Move}
use Rattle.model_history.specs.Scripts.{ScriptModel}
use Rattle.model_history.specs.Frames.{commands_of, page}
use Rattle.tile_visible.specs.Visible.{grid_of, seen, visible_places, visible_keys, by_id, key_at}
use Rattle.model_history.specs.Stamps.{changed_by, unchanged, frame_changes, commits_to, place_rect, stamp_in}
use Rattle.geom.specs.KeyLists.{same_key, has_key}
use Rattle.model_history.specs.Tiles.{page_keys}
use Rattle.model_history.proofs.BoolFacts.{or_either, or_left, or_right}
use Rattle.model_history.proofs.KeyFacts.{has_append}
use Rattle.model_history.proofs.PageFacts.{page_alike, page_before_alike}

pub frame_changes_alike : (s : ScriptModel) (ps qs : ℕ → List Move) (k : ℕ) → ((j : ℕ) → j < suc k → ps j ≡ qs j) → frame_changes s ps k ≡ frame_changes s qs k
frame_changes_alike s ps qs k f = let p = page_before_alike s ps qs k f in λ i. changed_by (p i) (commands_of s k) unchanged

pub commits_alike : (s : ScriptModel) (ps qs : ℕ → List Move) (n : ℕ) → ((k : ℕ) → k < n → ps k ≡ qs k) → commits_to s ps n ≡ commits_to s qs n
commits_alike s ps qs zero f = refl
commits_alike s ps qs (suc n) f =
    let c = frame_changes_alike s ps qs n f in
    let r = commits_alike s ps qs n (λ k l. f k (omega arith)) in
    λ i. record { frame = n; changed = c i } ∷ r i

pub stamp_alike : (s : ScriptModel) (ps qs : ℕ → List Move) (n : ℕ) → ((k : ℕ) → k < n → ps k ≡ qs k) → (layer : ℕ) (place : Place)
    → stamp_in s ps n layer place ≡ stamp_in s qs n layer place
unfolding stamp_in
stamp_alike s ps qs n f layer place =
    let p = page_alike s ps qs n f in
    let c = commits_alike s ps qs n f in
    λ i. unwrap_or (stamp_of layer (place_rect (p i) place (find (has_id layer) (p i).layers)) (c i)) 0

pub keys_alike : (s : ScriptModel) (ps qs : ℕ → List Move) (n : ℕ) → ((k : ℕ) → k < n → ps k ≡ qs k)
    → page_keys (page s ps n) (stamp_in s ps n) ≡ page_keys (page s qs n) (stamp_in s qs n)
keys_alike s ps qs n f =
    let p = page_alike s ps qs n f in
    λ i. page_keys (p i) (λ layer place. stamp_alike s ps qs n f layer place i)

-- visible keys are keys

fewer_places : (key : Place → TileKey) (f : Place → Bool) (ps : List Place) (q : TileKey) → has_key (map key (filter f ps)) q ≡ true → has_key (map key ps) q ≡ true
fewer_places key f [] q t = t
fewer_places key f (p ∷ ps) q t = at_head (f p) (fewer_places key f ps q) t
  where
    at_head : (b : Bool) → (has_key (map key (filter f ps)) q ≡ true → has_key (map key ps) q ≡ true)
        → has_key (map key (cond b (p ∷ filter f ps) (filter f ps))) q ≡ true → has_key (map key (p ∷ ps)) q ≡ true
    at_head true r t = by_or (or_either (same_key (key p) q) (has_key (map key (filter f ps)) q) t)
      where
        by_or : (same_key (key p) q ≡ true) ⊎ (has_key (map key (filter f ps)) q ≡ true) → same_key (key p) q || has_key (map key ps) q ≡ true
        by_or (inl u) = or_left (same_key (key p) q) (has_key (map key ps) q) u
        by_or (inr u) = or_right (same_key (key p) q) (has_key (map key ps) q) (r u)
    at_head false r t = or_right (same_key (key p) q) (has_key (map key ps) q) (r t)

fewer_in_each : (f g : PageLayer → List TileKey) (q : TileKey) → ((l : PageLayer) → has_key (f l) q ≡ true → has_key (g l) q ≡ true)
    → (ls : List PageLayer) → has_key (flat_map f ls) q ≡ true → has_key (flat_map g ls) q ≡ true
fewer_in_each f g q r [] t = t
fewer_in_each f g q r (l ∷ ls) t = by_or (or_either (has_key (f l) q) (has_key (flat_map f ls) q) (sym (has_append (f l) (flat_map f ls) q) ∙ t)) (fewer_in_each f g q r ls)
  where
    by_or : (has_key (f l) q ≡ true) ⊎ (has_key (flat_map f ls) q ≡ true) → (has_key (flat_map f ls) q ≡ true → has_key (flat_map g ls) q ≡ true)
        → has_key (g l ++ flat_map g ls) q ≡ true
    by_or (inl u) s = has_append (g l) (flat_map g ls) q ∙ or_left (has_key (g l) q) (has_key (flat_map g ls) q) (r l u)
    by_or (inr u) s = has_append (g l) (flat_map g ls) q ∙ or_right (has_key (g l) q) (has_key (flat_map g ls) q) (s u)

pub visible_is_key : (p : Page) (offset : ℕ → Point) (stamp : ℕ → Place → ℕ) (q : TileKey)
    → has_key (visible_keys p offset stamp) q ≡ true → has_key (page_keys p stamp) q ≡ true
unfolding visible_keys page_keys visible_places
visible_is_key p offset stamp q t =
    fewer_in_each (λ l. map (key_at stamp l.id) (visible_places p offset l)) (λ l. map (key_at stamp l.id) (places (grid_of p l))) q
    (λ l. fewer_places (key_at stamp l.id) (λ place. is_visible (seen p offset l place)) (places (grid_of p l)) q) (by_id p.layers) t
