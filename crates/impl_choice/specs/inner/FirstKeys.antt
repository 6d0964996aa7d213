-- The keys of the visible tiles that are missing, and the ready keys beside those of the visible tiles.
use Rattle.std.specs.Prelude.{◌≡◌, Bool, true, false, not, List, ◌++◌, filter}
use Rattle.geom.specs.declared.tile.TileKey.{TileKey}
use Rattle.geom.specs.KeyLists.{has_key, AreDistinctKeys}
use Rattle.tile_priority.specs.declared.rank.Side.TheVariants as side
use Rattle.tile_priority.specs.Choice.{is_visible_rank}
use Rattle.impl_tiles.specs.Stores.{Store, is_ready}
use Rattle.model_history.specs.Scripts.{ScriptModel}
use Rattle.model_history.specs.Tiles.{Tree}
use Rattle.model_history.specs.Ranking.{rank_in}
use Rattle.impl_tiles.specs.Choices.{store_lacks}

-- the key is that of a visible tile of the active tree
abbrev pub is_shown_in : ScriptModel → Tree → TileKey → Bool
is_shown_in s a q = is_visible_rank (rank_in s side.Active a q)

-- those of the active tree's visible keys that the store lacks, and after them those of the pending tree's that are not visible in the active tree
abbrev pub first_keys : ScriptModel → Tree → Store → List TileKey → List TileKey → List TileKey
first_keys s a store shown needed = filter (store_lacks store) shown ++ filter (λ q. not (is_shown_in s a q)) (filter (store_lacks store) needed)

-- the keys are the ready ones without some of these
pub record AreReadyBeside (store : Store) (shown needed ks : List TileKey) : Type 0 where
  pub kept : List TileKey
  pub once : AreDistinctKeys kept
  pub ready : (q : TileKey) → has_key kept q ≡ is_ready store q
  pub same : (f : TileKey → Bool) → ((q : TileKey) → has_key shown q ≡ true → f q ≡ false) → ((q : TileKey) → has_key needed q ≡ true → f q ≡ false) → filter f ks ≡ filter f kept
