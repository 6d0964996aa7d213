-- What the items show, and over it the missing tiles.
use Rattle.recording_check.proofs.RowFacts.{drawn}
use Rattle.recording_check.proofs.line.draw_row.Goals as goal

pub returns-clause-pixels : goal.returns-clause-pixels
returns-clause-pixels c =
    let raster = rw (c.list.ensures, c.row_from.ensures.value) at c.raster_into.ensures in
    drawn c.args.tile c.args.layer.now c.args.width c.args.from c.raster_into.new.bytes c.draw_missing.new.row raster c.draw_missing.ensures.pixels
