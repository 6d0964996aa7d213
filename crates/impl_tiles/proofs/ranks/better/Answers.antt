-- The other is the better one, whether or not the key is missing.
use Rattle.std.proofs.Common.{Some}
use Rattle.tile_priority.specs.Ranks.{least}
use Rattle.impl_tiles.specs.Choices.{store_lacks}
use Rattle.impl_tiles.proofs.Counts.{stands_either}
use Rattle.impl_tiles.proofs.ranks.better.Goals as goal

pub returns-then-is_beaten : goal.returns-then-is_beaten
returns-then-is_beaten c = stands_either (store_lacks c.args.store.now c.args.rank.key) (least (Some c.args.rank) c.args.other) c.args.other (c.is_beaten.ensures c.if-is_beaten.true)
