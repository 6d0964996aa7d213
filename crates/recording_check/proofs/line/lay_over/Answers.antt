-- The layer is laid over the columns that it covers, where there are any.
use Rattle.recording_check.proofs.RowFacts.{nothing_laid}
use Rattle.recording_check.proofs.line.lay_over.Goals as goal

pub lay_part-requires-clause-shared : goal.lay_part-requires-clause-shared
lay_part-requires-clause-shared c = rw (c.area.ensures.value, c.screen_row.ensures.value) at c.in-Some.ensures

pub returns-in_default-clause-pixels : goal.returns-in_default-clause-pixels
returns-in_default-clause-pixels c =
    let outside = rw (c.area.ensures.value, c.screen_row.ensures.value) at c.in_default.ensures in
    nothing_laid c.args.at.tile c.args.layer.now c.args.at.width c.args.at.y c.args.row.now outside
