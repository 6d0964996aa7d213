use Rattle.std.proofs.Common.{sym, subst}
use Rattle.impl_ranks.specs.SeenTrees.{IsPlacedWhere}
use Rattle.impl_ranks.proofs.BothTrees.{none_ranked}
use Rattle.impl_ranks.proofs.placed_trees.rank.Goals as goal

pub returns-in-None-clause-value : goal.returns-in-None-clause-value
returns-in-None-clause-value c = λ t is. sym (none_ranked c.args.plan.now c.args.side t c.args.key (subst (IsPlacedWhere t) c.in-None.is is))
