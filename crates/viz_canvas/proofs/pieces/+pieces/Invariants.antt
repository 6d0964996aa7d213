-- Below the topmost quad there are fewer.
use Rattle.std.specs.Prelude.{◌+◌, ◌*◌, length}
use Rattle.viz_canvas.proofs.pieces.+pieces.Given as given

abbrev pub decreases-draw_below : given.decreases-draw_below
decreases-draw_below g l = 3 * length l.quads.now

abbrev pub decreases-draw_pieces : given.decreases-draw_pieces
decreases-draw_pieces g l = 3 * length l.top.below.now + 2

abbrev pub decreases-draw_beside : given.decreases-draw_beside
decreases-draw_beside g l = 3 * length l.top.below.now + 1
