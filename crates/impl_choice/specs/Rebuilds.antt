-- For which past the ranks are made anew, and what an activation takes.
use Rattle.std.specs.Prelude.{◌≡◌, Bool, true, false, not, ◌&&◌, List, Option}
use Rattle.geom.specs.declared.tile.TileKey.{TileKey}
use Rattle.geom.specs.KeyLists.{has_key}
use Rattle.model_history.specs.declared.event.Event.{Event}
use Rattle.model_history.specs.declared.event.Event.TheVariants as event
use Rattle.model_history.specs.declared.history.Entry.{Entry}
use Rattle.model_history.specs.Scripts.{ScriptModel}
use Rattle.model_history.specs.Tiles.{active_tree, pending_tree, keys_of, required}
use Rattle.model_history.specs.Tiles as model
use Rattle.impl_ranks.specs.SeenTrees.{SeenTreeModel, IsSeenWhere}

-- the event sends, commits and activates no main frame, and starts and ends no tile
abbrev pub leaves_tiles : Event → Bool
leaves_tiles (event.Send k pulls) = false
leaves_tiles (event.Commit k) = false
leaves_tiles (event.Activate k clamps) = false
leaves_tiles (event.Start w q evicted) = false
leaves_tiles (event.DoneTile w q) = false
leaves_tiles _ = true

-- these trees are those after a past
pub record RanksNow (s : ScriptModel) (active pending : Option SeenTreeModel) : Type 0 where
  pub past : List Entry
  pub seen_active : IsSeenWhere (active_tree s past) active
  pub seen_pending : IsSeenWhere (pending_tree s past) pending

-- what a tile manager that represents the past takes for the activation: the pins are the keys that it needs, and dead are exactly the ready keys that its tree lacks
pub record AreForActivation (s : ScriptModel) (h : List Entry) (pinned lost : List TileKey) : Type 0 where
  pub pins : (q : TileKey) → has_key pinned q ≡ has_key (required s h) q
  pub dead : (q : TileKey) → has_key lost q ≡ (has_key (model.ready s h) q && not (has_key (keys_of (pending_tree s h)) q))
