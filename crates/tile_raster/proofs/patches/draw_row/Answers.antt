-- A row that has the place of the row above it shows what that shows.
use Rattle.tile_raster.proofs.PatchRows.{stay_drawn}
use Rattle.tile_raster.proofs.patches.draw_row.Goals as goal

pub returns-clause-drawn : goal.returns-clause-drawn
returns-clause-drawn c =
    stay_drawn c.args._list.now c.args.rect c.args.places.now c.requires.steps c.args.bytes.now c.args.y c.requires.inside
    (c.is_first.ensures.no c.if-is_first.false) c.requires.drawn
