-- A rank that is seen to come before another is the better one.
use Rattle.std.proofs.Common.{sym, ◌∙◌}
use Rattle.impl_tiles.proofs.Counts.{beaten}
use Rattle.impl_tiles.proofs.Neighbours.{told_less}
use Rattle.impl_tiles.proofs.ranks.is_beaten.Goals as goal

pub returns-in-Some : goal.returns-in-Some
returns-in-Some c = λ told. beaten c.args.rank c.in-Some.best c.args.other c.cmp.result c.in-Some.is c.cmp.ensures (told_less c.cmp.result (sym c.eq.ensures ∙ told))
