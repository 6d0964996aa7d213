use Rattle.std.proofs.Common.{sym, subst}
use Rattle.impl_ranks.specs.SeenTrees.{IsPlacedWhere}
use Rattle.impl_ranks.proofs.BothTrees.{no_keys}
use Rattle.impl_ranks.proofs.placed_trees.has.Goals as goal

pub returns-in-None : goal.returns-in-None
returns-in-None c = λ t is. sym (no_keys t (subst (IsPlacedWhere t) c.in-None.is is) c.args.key)
