-- The image is what the scene shows.
use Rattle.std.proofs.Common.{◌+◌, rules}
use Rattle.viz_canvas.proofs.PieceSteps.{image_drawn}
use Rattle.viz_canvas.proofs.pieces.draw_top_tile.Goals as goal

pub returns-clause-drawn : goal.returns-clause-drawn
returns-clause-drawn g c =
    image_drawn g.F.PixelFormat.DEPTH g.F.PixelFormat.bytes_of c.args.scene.now c.args.place.band c.args.place.at (c.args.tile.part.left + c.column_of.result) (c.args.tile.part.above + c.row_of.result)
    c.args.tile.image.now c.args.bytes.now c.write_image.new.bytes (rw (c.column_of.ensures, c.row_of.ensures) (c.requires.tile)) (c.is_written.ensures (search rules))
    c.write_image.ensures
