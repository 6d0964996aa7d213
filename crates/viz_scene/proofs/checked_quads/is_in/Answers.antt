-- The answer is the test by definition, which decides.
use Rattle.std.proofs.Common.{rules}
use Rattle.viz_scene.proofs.Places.{in_decided}
use Rattle.viz_scene.proofs.checked_quads.is_in.Goals as goal

pub returns-then-across-clause-value : goal.returns-then-across-clause-value
returns-then-across-clause-value c = search rules

pub returns-else-across-clause-value : goal.returns-else-across-clause-value
returns-else-across-clause-value c = search rules

pub returns-then-across-clause-decides : goal.returns-then-across-clause-decides
returns-then-across-clause-decides c = in_decided c.args.w c.args.h c.args.at _ (returns-then-across-clause-value c)

pub returns-else-across-clause-decides : goal.returns-else-across-clause-decides
returns-else-across-clause-decides c = in_decided c.args.w c.args.h c.args.at _ (returns-else-across-clause-value c)
