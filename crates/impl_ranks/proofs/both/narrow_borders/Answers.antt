use Rattle.std.proofs.Common.{sym, subst}
use Rattle.impl_ranks.specs.inner.Lists.{IsNarrow}
use Rattle.impl_ranks.proofs.BothTrees.{narrow}
use Rattle.impl_ranks.proofs.both.narrow_borders.Goals as goal

pub returns-clause-narrow : goal.returns-clause-narrow
returns-clause-narrow c = subst IsNarrow (sym c.borders.ensures.value) (narrow c.args.plan.now c.page-page.result.now c.is_playable.ensures c.is_page.ensures.view)
