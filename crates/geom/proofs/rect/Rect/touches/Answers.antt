-- The answer is the test by definition, which says that there is a common point.
use Rattle.geom.proofs.Meets.{touching}
use Rattle.std.proofs.Common.{rules}
use Rattle.geom.proofs.rect.Rect.touches.Goals as goal

pub returns-then-across-clause-value : goal.returns-then-across-clause-value
returns-then-across-clause-value c = search rules

pub returns-else-across-clause-value : goal.returns-else-across-clause-value
returns-else-across-clause-value c = search rules

pub returns-then-across-clause-points : goal.returns-then-across-clause-points
returns-then-across-clause-points c = touching c.args.self c.args.other _ (returns-then-across-clause-value c)

pub returns-else-across-clause-points : goal.returns-else-across-clause-points
returns-else-across-clause-points c = touching c.args.self c.args.other _ (returns-else-across-clause-value c)
