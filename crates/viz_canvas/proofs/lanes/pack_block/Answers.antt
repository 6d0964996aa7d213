-- Four times four pixels, one after another.
use Rattle.viz_canvas.proofs.Joins.{packed_at, packed_more}
use Rattle.viz_canvas.proofs.lanes.pack_block.Goals as goal

pub returns : goal.returns
returns c = λ j lt.
    let row = c.args.row.now in
    let old = c.args.packed.now in
    let eight = packed_more 4 4 row old c.pack_four.new.packed c.pack_four-2.new.packed c.pack_four.ensures c.pack_four-2.ensures in
    let twelve = packed_more 8 4 row old c.pack_four-2.new.packed c.pack_four-3.new.packed eight c.pack_four-3.ensures in
    let all = packed_more 12 4 row old c.pack_four-3.new.packed c.pack_four-4.new.packed twelve c.pack_four-4.ensures in
    packed_at 16 row old c.pack_four-4.new.packed j all lt
