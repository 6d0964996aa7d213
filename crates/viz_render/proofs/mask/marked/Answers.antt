-- A mask without marks, and then with those of the quads.
use Rattle.std.proofs.Common.{length}
use Rattle.viz_render.proofs.MarkSteps.{none_marked, none_numbered, zeros_numbered}
use Rattle.viz_render.proofs.mask.marked.Goals as goal

pub mark_deep-requires-clause-marked : goal.mark_deep-requires-clause-marked
mark_deep-requires-clause-marked c = none_marked c.args.area c.args.quads.now c.clear.new.tops c.clear.ensures.none

pub returns-then-deep-clause-numbers : goal.returns-then-deep-clause-numbers
returns-then-deep-clause-numbers c = zeros_numbered (length c.args.quads.now) c.clear.new.tops c.mark_deep.new.tops c.clear.ensures.none c.mark_deep.ensures.numbers

pub returns-else-deep-clause-marked : goal.returns-else-deep-clause-marked
returns-else-deep-clause-marked c = none_marked c.args.area c.args.quads.now c.clear.new.tops c.clear.ensures.none

pub returns-else-deep-clause-numbers : goal.returns-else-deep-clause-numbers
returns-else-deep-clause-numbers c = none_numbered (length c.args.quads.now) c.clear.new.tops c.clear.ensures.none
