-- The rows so far are written.
use Rattle.std.specs.Prelude.{◌+◌, ◌-◌}
use Rattle.tile_raster.specs.Images.{list_colour}
use Rattle.viz_canvas.specs.Formats.{bytes_at}
use Rattle.viz_canvas.specs.inner.Parts.{EachOf, only_in}
use Rattle.viz_canvas.proofs.pieces.write_image.Given as given

abbrev pub invariant-loop-row : given.invariant-loop-row
invariant-loop-row g l =
    EachOf (bytes_at g.F.PixelFormat.DEPTH) l.fn.band.across l.fn.band.rows
    (only_in l.at l.row (λ x y below. g.F.PixelFormat.bytes_of (list_colour l.image.list l.image.rect (l.left + (x - l.at.x)) (l.above + (y - l.at.y)))))
    l.initial.bytes l.bytes
