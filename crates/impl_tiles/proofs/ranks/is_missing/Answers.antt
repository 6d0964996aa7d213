-- Where none is being made, the key isn't.
use Rattle.std.proofs.Common.{sym, ◌∙◌}
use Rattle.impl_tiles.proofs.AmongRanks.{none_flies}
use Rattle.impl_tiles.proofs.ranks.is_missing.Goals as goal

pub is_made_now-requires : goal.is_made_now-requires
is_made_now-requires c = λ e. none_flies c.args.store.now (sym c.requires ∙ e) c.args.key
