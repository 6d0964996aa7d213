-- What is tested before a call of the queue.
use Rattle.std.specs.Prelude.{List, map, ◌++◌}
use Rattle.geom.specs.declared.tile.TileKey.{TileKey}
use Rattle.tile_priority.specs.Choice.{Choice}
use Rattle.tile_queue.specs.Queues.{rank_key, tile_key}

-- the wanted keys, and those that are ready
abbrev pub all_keys : Choice → List TileKey
all_keys c = map rank_key c.wanted ++ map tile_key c.ready
