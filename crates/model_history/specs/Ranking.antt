-- Which tile is made next, and which ready tiles are evicted for it.
use Rattle.std.specs.Prelude.{Bool, cond, not, ◌&&◌, List, length, map, filter, filter_map, find, Option, None, option_and_then}
use Rattle.geom.specs.declared.tile.Place.{Place}
use Rattle.geom.specs.declared.tile.TileKey.{TileKey}
use Rattle.tile_priority.specs.declared.rank.Rank.{Rank}
use Rattle.tile_priority.specs.declared.rank.Side.{Side}
use Rattle.tile_priority.specs.declared.rank.Side.TheVariants as side
use Rattle.tile_priority.specs.declared.tile.Borders.{Borders}
use Rattle.tile_priority.specs.Bins.{rank_of}
use Rattle.tile_priority.specs.Ranks.{least}
use Rattle.tile_priority.specs.Tiles.{Tile}
use Rattle.tile_priority.specs.Choice.{Choice, evictable_key, evicted}
use Rattle.tile_priority.specs.Choice as choosing
use Rattle.page_layers.specs.Layers.{PageLayer, has_id}
use Rattle.page_layers.specs.Pages.{Page, viewport}
use Rattle.model_history.specs.declared.history.Entry.{Entry}
use Rattle.model_history.specs.Scripts.{ScriptModel}
use Rattle.tile_visible.specs.Visible.{seen}
use Rattle.geom.specs.KeyLists.{has_key}
use Rattle.model_history.specs.Tiles.{Tree, active_tree, pending_tree, keys_of, live_keys, ready, in_flight, pinned}

-- by what the tiles of a page are ranked: its viewport, and the distances and the tree priority of the script; and the place that a key names
abbrev pub borders : ScriptModel → Page → Borders
borders s p = record { viewport = viewport p; soon = s.soon; eventually = s.eventually; priority = s.priority }

abbrev pub place_named : TileKey → Place
place_named q = record { x = q.x; y = q.y }

-- the rank of a place of a page, if its tile has a bin
abbrev pub rank_on : ScriptModel → Side → Tree → TileKey → Option PageLayer → Option Rank
rank_on s side t q layer = option_and_then (λ l. rank_of (borders s t.page) side (seen t.page t.offset l (place_named q)) q) layer

-- the rank of a key in a tree; none if the tree lacks the key, or its tile has no bin
unfoldable pub rank_in : ScriptModel → Side → Tree → TileKey → Option Rank
rank_in s side t q = cond (has_key (keys_of t) q) (rank_on s side t q (find (has_id q.layer) t.page.layers)) None

-- the rank of a key: the better of its ranks in the two trees
abbrev pub rank : ScriptModel → List Entry → TileKey → Option Rank
rank s h q = least (rank_in s side.Active (active_tree s h) q) (rank_in s side.Pending (pending_tree s h) q)

-- the key is neither ready nor in flight; the ranks of the live keys that are neither
abbrev pub is_unmade : ScriptModel → List Entry → TileKey → Bool
is_unmade s h q = not (has_key (ready s h) q) && not (has_key (in_flight h) q)

abbrev pub wanted : ScriptModel → List Entry → List Rank
wanted s h = filter_map (rank s h) (filter (is_unmade s h) (live_keys s h))

-- a ready key with its rank, and whether it must stay
abbrev pub ready_tile : ScriptModel → List Entry → TileKey → Tile
ready_tile s h q = record { key = q; rank = rank s h q; pinned = has_key (pinned s h) q }

-- what the choice is made from: the wanted ranks, the ready tiles, how many are in flight, and the budget
abbrev pub choice : ScriptModel → List Entry → Choice
choice s h = record { wanted = wanted s h; ready = map (ready_tile s h) (ready s h); in_flight = length (in_flight h); budget = s.budget }

-- the rank of the key that starts first, if one may start; the keys that are evicted for it, the worst first
abbrev pub rank_to_start : ScriptModel → List Entry → Option Rank
rank_to_start s h = choosing.first (choice s h)

abbrev pub evicted_for : ScriptModel → List Entry → Rank → List TileKey
evicted_for s h r = map evictable_key (evicted (choice s h) r)
