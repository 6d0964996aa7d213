-- One quad more at the ends.
use Rattle.std.proofs.Common.{◌-◌, length, arith, rules}
use Rattle.viz_damage.proofs.QuadSteps.{fits_at}
use Rattle.viz_damage.proofs.ListSteps.{ends_more}
use Rattle.viz_damage.proofs.lists.common_end.Goals as goal

pub act_alike-requires : goal.act_alike-requires
act_alike-requires c = record {
  fits =
      fits_at c.args.passes c.args.old.now (length c.args.old.now - 1 - c.loop-end.end) c.index-old-old.result c.requires.old (omega arith) c.index-old-old.is;
}

pub loop-end-preserved : goal.loop-end-preserved
loop-end-preserved c = record {
  old = omega arith;
  new = omega arith;
  alike =
      ends_more c.args.old.now c.args.new.now c.loop-end.end c.index-old-old.result c.index-new-new.result c.loop-end-test.true c.if-end-new.true
      c.index-old-old.is c.index-new-new.is (c.act_alike.ensures (search rules)) c.loop-end.invariant.alike;
}
