-- For which past a queue is rebuilt.
use Rattle.std.specs.Prelude.{◌≡◌, ℕ, List, length, Option}
use Rattle.std.specs.List.Sorted.{IsSorted}
use Rattle.geom.specs.declared.tile.TileKey.{TileKey}
use Rattle.geom.specs.KeyLists.{has_key, AreDistinctKeys}
use Rattle.geom.specs.KeyOrder.{key_cmp}
use Rattle.impl_tiles.specs.Stores.{Store, is_in_flight}
use Rattle.model_history.specs.declared.history.Entry.{Entry}
use Rattle.model_history.specs.Scripts.{ScriptModel}
use Rattle.model_history.specs.Legal.{Legal}
use Rattle.model_history.specs.Tiles.{active_tree, pending_tree}
use Rattle.model_history.specs.Tiles as model
use Rattle.impl_ranks.specs.SeenTrees.{SeenTreeModel, IsSeenWhere}

-- the ready keys after this past are these, each once, in key order; the store's keys in flight are those after the past, the given number; and the pinned keys are these
pub record AreTilesAt (s : ScriptModel) (h : List Entry) (store : Store) (kept pins : List TileKey) (flying : ℕ) : Type 0 where
  pub once : AreDistinctKeys kept
  pub order : IsSorted key_cmp kept
  pub ready : (q : TileKey) → has_key kept q ≡ has_key (model.ready s h) q
  pub in_flight : (q : TileKey) → is_in_flight store q ≡ has_key (model.in_flight h) q
  pub as_many : flying ≡ length (model.in_flight h)
  pub pinned : (q : TileKey) → has_key pins q ≡ has_key (model.pinned s h) q

-- these trees and tiles are those after a past of a run
pub record RebuildsNow (s : ScriptModel) (active pending : Option SeenTreeModel) (store : Store) (kept pins : List TileKey) (flying : ℕ) : Type 0 where
  pub workers : ℕ
  pub past : List Entry
  pub legal : Legal s workers past
  pub seen_active : IsSeenWhere (active_tree s past) active
  pub seen_pending : IsSeenWhere (pending_tree s past) pending
  pub tiles : AreTilesAt s past store kept pins flying
