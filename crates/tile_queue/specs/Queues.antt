-- What may be handed to a raster queue, and what it answers for a key.
use Rattle.std.specs.Prelude.{◌≡◌, true, false, List, map}
use Rattle.geom.specs.declared.tile.TileKey.{TileKey}
use Rattle.geom.specs.KeyLists.{has_key, AreDistinctKeys}
use Rattle.tile_priority.specs.declared.rank.Rank.{Rank}
use Rattle.tile_priority.specs.Tiles.{Tile}
use Rattle.tile_priority.specs.Ordered.{In}
use Rattle.tile_priority.specs.Choice.{Choice, evictable_key, evicted}

-- the key of a rank, and of a tile
abbrev pub rank_key : Rank → TileKey
rank_key r = r.key

abbrev pub tile_key : Tile → TileKey
tile_key t = t.key

-- no key stands twice in these wanted ranks and ready tiles together
pub record EachKeyOnce (wanted : List Rank) (ready : List Tile) : Type 0 where
  pub wanted_once : AreDistinctKeys (map rank_key wanted)
  pub ready_once : AreDistinctKeys (map tile_key ready)
  pub apart : (q : TileKey) → has_key (map rank_key wanted) q ≡ true → has_key (map tile_key ready) q ≡ false

-- the key is neither wanted nor ready
pub record IsNew (c : Choice) (q : TileKey) : Type 0 where
  pub not_wanted : has_key (map rank_key c.wanted) q ≡ false
  pub not_ready : has_key (map tile_key c.ready) q ≡ false

-- these keys are evicted for the key, if it is wanted; the worst stands first
abbrev pub AreEvictedFor : Choice → TileKey → List TileKey → Type 0
AreEvictedFor c q ks = (r : Rank) → In r c.wanted → r.key ≡ q → ks ≡ map evictable_key (evicted c r)

-- the key is wanted, and these are evicted for it
pub record MayStartWith (c : Choice) (q : TileKey) (ks : List TileKey) : Type 0 where
  pub rank : Rank
  pub wanted : In rank c.wanted
  pub key : rank.key ≡ q
  pub evicted : ks ≡ map evictable_key (evicted c rank)
