-- The hidden blocks first, and then those of the quads.
use Rattle.std.proofs.Common.{length, ◌+◌, arith}
use Rattle.viz_render.proofs.MarkSteps.{hidden_marked, hidden_numbered, open_numbered}
use Rattle.viz_render.proofs.mask.open_marked.Goals as goal

pub mark_deep-requires-clause-marked : goal.mark_deep-requires-clause-marked
mark_deep-requires-clause-marked c =
    hidden_marked c.args.area c.args.quads.now c.args.root.mask.now.tops c.args.root.number (length c.args.quads.now + 1) c.hide_blocks.new.tops c.requires.area.wide c.requires.area.low (omega arith) (rw (c.tops.ensures.value) at c.hide_blocks.ensures.hidden)

pub returns-then-deep-clause-numbers : goal.returns-then-deep-clause-numbers
returns-then-deep-clause-numbers c =
    open_numbered (length c.args.quads.now) c.args.root.mask.now.tops c.args.root.number (length c.args.quads.now + 1) c.hide_blocks.new.tops c.mark_deep.new.tops (rw (c.tops.ensures.value) at c.hide_blocks.ensures.hidden) c.mark_deep.ensures.numbers

pub returns-else-deep-clause-marked : goal.returns-else-deep-clause-marked
returns-else-deep-clause-marked c =
    hidden_marked c.args.area c.args.quads.now c.args.root.mask.now.tops c.args.root.number (length c.args.quads.now + 1) c.hide_blocks.new.tops c.requires.area.wide c.requires.area.low (omega arith) (rw (c.tops.ensures.value) at c.hide_blocks.ensures.hidden)

pub returns-else-deep-clause-numbers : goal.returns-else-deep-clause-numbers
returns-else-deep-clause-numbers c =
    hidden_numbered (length c.args.quads.now) c.args.root.mask.now.tops c.args.root.number (length c.args.quads.now + 1) c.hide_blocks.new.tops (rw (c.tops.ensures.value) at c.hide_blocks.ensures.hidden)
