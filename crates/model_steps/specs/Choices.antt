-- The choice of tiles by the trees and the keys that it is made from.
use Rattle.std.specs.Prelude.{Bool, not, ◌&&◌, List, ◌++◌, length, map, filter, filter_map, Option}
use Rattle.geom.specs.declared.tile.TileKey.{TileKey}
use Rattle.geom.specs.KeyLists.{has_key}
use Rattle.tile_priority.specs.declared.rank.Rank.{Rank}
use Rattle.tile_priority.specs.declared.rank.Side.TheVariants as side
use Rattle.tile_priority.specs.Ranks.{least}
use Rattle.tile_priority.specs.Tiles.{Tile}
use Rattle.tile_priority.specs.Choice.{Choice}
use Rattle.model_history.specs.Scripts.{ScriptModel}
use Rattle.model_history.specs.Tiles.{Tree, keys_of}
use Rattle.model_history.specs.Ranking.{rank_in}

-- the rank of a key in an active and a pending tree: the better of the two
abbrev pub rank_in_both : ScriptModel → Tree → Tree → TileKey → Option Rank
rank_in_both s a p q = least (rank_in s side.Active a q) (rank_in s side.Pending p q)

-- the key is neither ready nor in flight
abbrev pub lacks_key : List TileKey → List TileKey → TileKey → Bool
lacks_key ready in_flight q = not (has_key ready q) && not (has_key in_flight q)

-- a ready key with its rank, and whether it must stay
abbrev pub tile_in_both : ScriptModel → Tree → Tree → List TileKey → TileKey → Tile
tile_in_both s a p pinned q = record { key = q; rank = rank_in_both s a p q; pinned = has_key pinned q }

-- what the choice is made from, if these trees are active and pending, and these keys ready, in flight and pinned
abbrev pub choice_of : ScriptModel → Tree → Tree → List TileKey → List TileKey → List TileKey → Choice
choice_of s a p ready in_flight pinned = record {
  wanted = filter_map (rank_in_both s a p) (filter (lacks_key ready in_flight) (keys_of a ++ keys_of p));
  ready = map (tile_in_both s a p pinned) ready;
  in_flight = length in_flight;
  budget = s.budget;
}
