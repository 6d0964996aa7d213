-- The pixels that come next are copied after those before.
use Rattle.std.proofs.Common.{true, rules}
use Rattle.cc_c.proofs.CopiedRows.{row_more}
use Rattle.cc_c.proofs.exchange.copy_exchanged.Goals as goal

pub fours-preserved : goal.fours-preserved
fours-preserved c = record {
  within = search rules;
  length = search rules;
  row = row_more true c.fours.place 4 c.args.at c.args.row.now c.args.to.now c.fours.to c.put_four.new.to c.fours.invariant.row c.put_four.ensures.pixels;
}

pub ones-preserved : goal.ones-preserved
ones-preserved c = record {
  within = search rules;
  length = search rules;
  row = row_more true c.ones.place 1 c.args.at c.args.row.now c.args.to.now c.ones.to c.put_one.new.to c.ones.invariant.row c.put_one.ensures.pixels;
}
