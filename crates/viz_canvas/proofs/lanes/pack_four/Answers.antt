-- The colours of sixteen bytes were put, and their alphas after them.
use Rattle.viz_canvas.proofs.Fours.{packed_four}
use Rattle.viz_canvas.proofs.lanes.pack_four.Goals as goal

pub returns : goal.returns
returns c = packed_four c.args.row.now c.args.packed.now c.colours_first.result c.args.place c.requires.given c.requires.room c.colours_first.ensures.len c.colours_first.ensures.colours
