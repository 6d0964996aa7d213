-- The tiles of the active and of the pending tree: which of them are ready, which are made at this time, which must stay.
use Rattle.std.specs.Prelude.{ℕ, ◌+◌, Bool, not, List, [], ◌∷◌, ◌++◌, length, map, filter, flat_map, cond, is_some}
use Rattle.std.specs.List.{list_all}
use Rattle.geom.specs.declared.rect.Point.{Point}
use Rattle.geom.specs.declared.tile.Place.{Place}
use Rattle.geom.specs.declared.tile.TileKey.{TileKey}
use Rattle.geom.specs.Grids.{places}
use Rattle.geom.specs.KeyLists.{has_key}
use Rattle.page_layers.specs.Pages.{Page}
use Rattle.model_history.specs.declared.history.Entry.{Entry}
use Rattle.model_history.specs.Scripts.{ScriptModel}
use Rattle.model_history.specs.EventFields.{starts, evicts, finishes, activates}
use Rattle.tile_visible.specs.Visible.{grid_of, by_id, key_at, visible_keys}
use Rattle.model_history.specs.Frames.{pulls_of, active, pending, up_to, active_page, pending_page}
use Rattle.model_history.specs.Scrolls.{active_offsets, pending_offsets}
use Rattle.model_history.specs.Stamps.{stamp_in}

-- a page at given offsets of its scrollers, with the stamps of its places
pub record Tree : Type 0 where
  pub page : Page
  pub offset : ℕ → Point
  pub stamp : ℕ → Place → ℕ

-- the active tree, and the pending one; a blank page if there is none
abbrev pub active_tree : ScriptModel → List Entry → Tree
active_tree s h = record { page = active_page s h; offset = active_offsets s h; stamp = stamp_in s (pulls_of h) (up_to (active h)) }

abbrev pub pending_tree : ScriptModel → List Entry → Tree
pending_tree s h = record { page = pending_page s h; offset = pending_offsets s h; stamp = stamp_in s (pulls_of h) (up_to (pending h)) }

-- all keys of a page in key order, where `stamp` tells the stamps
unfoldable pub page_keys : Page → (ℕ → Place → ℕ) → List TileKey
page_keys p stamp = flat_map (λ l. map (key_at stamp l.id) (places (grid_of p l))) (by_id p.layers)

-- all keys of a tree, and those of its visible tiles
abbrev pub keys_of : Tree → List TileKey
keys_of t = page_keys t.page t.stamp

abbrev pub visible_in : Tree → List TileKey
visible_in t = visible_keys t.page t.offset t.stamp

-- keys of which some are taken away; if there are none to take away, all stay
abbrev pub without_keys : List TileKey → List TileKey → List TileKey
without_keys ks [] = ks
without_keys ks (q ∷ qs) = filter (λ k. not (has_key (q ∷ qs) k)) ks

-- the live keys: those of the active and of the pending tree
abbrev pub live_keys : ScriptModel → List Entry → List TileKey
live_keys s h = keys_of (active_tree s h) ++ keys_of (pending_tree s h)

-- the keys that were made and not evicted since; those that were started and are not made yet; those that are ready: live, made and not evicted
abbrev pub made_so_far : List Entry → List TileKey
made_so_far [] = []
made_so_far (e ∷ h) = finishes e.event ++ without_keys (made_so_far h) (evicts e.event)

abbrev pub in_flight : List Entry → List TileKey
in_flight [] = []
in_flight (e ∷ h) = starts e.event ++ without_keys (in_flight h) (finishes e.event)

abbrev pub ready : ScriptModel → List Entry → List TileKey
ready s h = filter (has_key (live_keys s h)) (made_so_far h)

-- how many tiles there are, ready or in flight
abbrev pub tiles_used : ScriptModel → List Entry → ℕ
tiles_used s h = length (ready s h) + length (in_flight h)

-- what an activation needs: the visible keys of the pending tree; what the last one needed: nothing before the first
abbrev pub required : ScriptModel → List Entry → List TileKey
required s h = visible_in (pending_tree s h)

abbrev pub pinned : ScriptModel → List Entry → List TileKey
pinned s [] = []
pinned s (e ∷ h) = cond (is_some (activates e.event)) (required s h) (pinned s h)

-- all these keys are ready
abbrev pub are_ready : ScriptModel → List Entry → List TileKey → Bool
are_ready s h ks = list_all (has_key (ready s h)) ks

-- the visible keys of the active tree that are not ready, in key order
abbrev pub missing_visible : ScriptModel → List Entry → List TileKey
missing_visible s h = filter (λ q. not (has_key (ready s h) q)) (visible_in (active_tree s h))
