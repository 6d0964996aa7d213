-- What a judge keeps of the tiles of a run.
use Rattle.std.specs.FinMap as map
use Rattle.std.specs.FinSet as set
use Rattle.std.specs.Prelude.{◌≡◌, ◌<◌, ℕ, List, [], ◌∷◌, length, slice_index_or, Option, Some, None, IfSome}
use Rattle.geom.specs.declared.tile.TileKey.{TileKey}
use Rattle.geom.specs.KeyLists.{has_key}
use Rattle.tile_priority.specs.Choice.{Choice}
use Rattle.tile_priority.specs.Tiles.{Tile}
use Rattle.tile_priority.specs.Alike.{Alike, choice_after_start, finished}
use Rattle.impl_tiles.specs.Stores.{Store}
use Rattle.model_history.specs.declared.history.Entry.{Entry}
use Rattle.model_history.specs.Scripts.{ScriptModel}
use Rattle.model_history.specs.Scans.{held}
use Rattle.model_history.specs.Legal.{Legal}
use Rattle.model_history.specs.Tiles as model
use Rattle.model_history.specs.Tiles.{active_tree, pending_tree}
use Rattle.model_history.specs.Ranking.{choice}
use Rattle.model_steps.specs.Events.{start, done}
use Rattle.impl_ranks.specs.SeenTrees.{SeenTreeModel, IsSeenWhere}
use Rattle.impl_tiles.specs.Managers.{HaveSameTiles, tile_made}
use Rattle.recording_judge.specs.declared.tile_keys.TileKeys.{TileKeys}

-- these keys are ready, these pinned, each of the given number of workers holds this, and the queue is for this choice, if there is one
pub record HoldsKeys (n : ℕ) (t : TileKeys) (made pins : List TileKey) (holder : ℕ → Option TileKey) (c : Choice) : Type 0 where
  pub ready : (q : TileKey) → has_key t.ready q ≡ has_key made q
  pub pinned : (q : TileKey) → has_key t.pins q ≡ has_key pins q
  pub count : length t.held.items ≡ n
  pub held : (w : ℕ) → w < n → slice_index_or t.held.items w None ≡ holder w
  pub queue : IfSome t.queue (λ (q : Choice). Alike q c)

-- the same of the tiles of a run with the given number of workers after this past
abbrev pub Holds : ScriptModel → ℕ → List Entry → TileKeys → Type 0
Holds s n h t = HoldsKeys n t (model.ready s h) (model.pinned s h) (λ w. held w h) (choice s h)

-- the keys that workers hold, in the order of the workers
abbrev pub held_keys : List (Option TileKey) → List TileKey
held_keys [] = []
held_keys (None ∷ os) = held_keys os
held_keys (Some q ∷ os) = q ∷ held_keys os

-- a store without images that is making these keys
abbrev pub store_of : List TileKey → Store
store_of ks = record { ready = map.empty; in_flight = set.from_list ks; spare = 0 }

-- all of the given number of workers hold nothing
abbrev pub AreFree : ℕ → List (Option TileKey) → Type 0
AreFree n os = (length os ≡ n) × ((w : ℕ) → slice_index_or os w None ≡ None)

-- the queue of a choice, if there is one, once a key has started for which these are evicted
abbrev pub Started : Option Choice → Option Choice → TileKey → List TileKey → Type 0
Started None new q evicted = new ≡ None
Started (Some c) None q evicted = ⊥
Started (Some c) (Some d) q evicted = Alike d (choice_after_start c q evicted)

-- the same once a tile in flight is made
abbrev pub Finished : Option Choice → Option Choice → Option Tile → Type 0
Finished None new tile = new ≡ None
Finished (Some c) None tile = ⊥
Finished (Some c) (Some d) tile = Alike d (finished c tile)

-- there is a run whose tiles and whose two trees these are, with the given number of tiles in flight
pub record QueuesNow (s : ScriptModel) (active pending : Option SeenTreeModel) (t : TileKeys) (flying : ℕ) : Type 0 where
  pub workers : ℕ
  pub past : List Entry
  pub legal : Legal s workers past
  pub holds : Holds s workers past t
  pub seen_active : IsSeenWhere (active_tree s past) active
  pub seen_pending : IsSeenWhere (pending_tree s past) pending
  pub as_many : flying ≡ length (model.in_flight past)

-- there is a run in which the worker may start the key next, for which these keys are evicted
pub record StartsNow (t : TileKeys) (w : ℕ) (q : TileKey) (evicted : List TileKey) : Type 0 where
  pub script : ScriptModel
  pub workers : ℕ
  pub past : List Entry
  pub actor : ℕ
  pub within : w < workers
  pub holds : Holds script workers past t
  pub legal : Legal script workers (start actor w q evicted ∷ past)

-- there is a run in which the worker may be done with the key next, whose tile is this
pub record DoneNow (t : TileKeys) (w : ℕ) (q : TileKey) (tile : Option Tile) : Type 0 where
  pub script : ScriptModel
  pub workers : ℕ
  pub past : List Entry
  pub actor : ℕ
  pub within : w < workers
  pub holds : Holds script workers past t
  pub legal : Legal script workers (done actor w q ∷ past)
  pub is_tile : tile ≡ tile_made script past q

-- after both pasts the same keys are ready, in flight and pinned, and each worker holds the same
pub record HaveSameKeys (s : ScriptModel) (h g : List Entry) : Type 0 where
  pub tiles : HaveSameTiles s h g
  pub held : (w : ℕ) → held w g ≡ held w h
