-- Each step packs the pixels that come next; at the end all are packed.
use Rattle.std.proofs.Common.{arith}
use Rattle.viz_canvas.proofs.Joins.{packed_at, packed_more}
use Rattle.viz_canvas.proofs.row.pack_row.Goals as goal

pub sixteens-preserved : goal.sixteens-preserved
sixteens-preserved c = record {
  within = omega arith;
  packed = packed_more c.sixteens.place 16 c.args.row.now c.args.packed.now c.sixteens.packed c.pack_sixteen.new.packed c.sixteens.invariant.packed c.pack_sixteen.ensures;
}

pub fours-preserved : goal.fours-preserved
fours-preserved c = record {
  within = omega arith;
  packed = packed_more c.fours.place 4 c.args.row.now c.args.packed.now c.fours.packed c.pack_four.new.packed c.fours.invariant.packed c.pack_four.ensures;
}

pub ones-preserved : goal.ones-preserved
ones-preserved c = record {
  within = omega arith;
  packed = packed_more c.ones.place 1 c.args.row.now c.args.packed.now c.ones.packed c.pack_pixel.new.packed c.ones.invariant.packed c.pack_pixel.ensures;
}

pub returns : goal.returns
returns c = λ k lt. packed_at c.ones.place c.args.row.now c.args.packed.now c.ones.packed k c.ones.invariant.packed (omega arith)
