-- The rank that is found is the one of the key.
use Rattle.impl_tiles.proofs.RankedKeys.{among}
use Rattle.impl_tiles.proofs.picks.ready_tile.Goals as goal

pub returns : goal.returns
returns c = λ rs once same i. record { key = c.args.key; rank = among c.args.ranks.now rs same once c.args.key c.rank_at-rank.result c.rank_at-rank.ensures.among i; pinned = c.args.pinned }
