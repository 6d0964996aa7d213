use Rattle.std.proofs.Common.{sym, subst}
use Rattle.impl_ranks.specs.inner.Lists.{IsArea}
use Rattle.impl_ranks.proofs.SoundAreas.{area_small}
use Rattle.impl_ranks.proofs.near.area_near.Goals as goal

pub returns-clause-near : goal.returns-clause-near
returns-clause-near c = subst IsArea (sym c.area_of.ensures) (area_small c.args.borders.now c.requires)
