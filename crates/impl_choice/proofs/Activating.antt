-- The keys that go at an activation.
use Rattle.std.proofs.Common.{◌≡◌, true, not, ◌&&◌, List, ◌∙◌, ap}
use Rattle.geom.specs.declared.tile.TileKey.{TileKey}
use Rattle.geom.specs.KeyLists.{has_key}
use Rattle.impl_tiles.specs.Stores.{is_ready}
use Rattle.model_history.specs.declared.history.Entry.{Entry}
use Rattle.model_history.specs.Scripts.{ScriptModel}
use Rattle.model_history.specs.Tiles.{pending_tree, keys_of, ready}
use Rattle.impl_tiles.specs.Managers.{Managed, Manages}
use Rattle.impl_choice.specs.Rebuilds.{AreForActivation}

pub dead_there : (s : ScriptModel) (h : List Entry) (m : Managed) (dead : List TileKey) → Manages s h m → ((q : TileKey) → has_key dead q ≡ (is_ready m.store q && not (has_key (keys_of (pending_tree s h)) q)))
    → (q : TileKey) → has_key dead q ≡ (has_key (ready s h) q && not (has_key (keys_of (pending_tree s h)) q))
dead_there s h m dead holds are q = are q ∙ ap (λ b. b && not (has_key (keys_of (pending_tree s h)) q)) (holds.ready q)

-- of the ready keys those are dead that the tree lacks
pub ready_dead : (s : ScriptModel) (h : List Entry) (pins dead : List TileKey) → AreForActivation s h pins dead → (q : TileKey) → has_key (ready s h) q ≡ true → has_key dead q ≡ not (has_key (keys_of (pending_tree s h)) q)
ready_dead s h pins dead brings q t = brings.dead q ∙ ap (λ b. b && not (has_key (keys_of (pending_tree s h)) q)) t
