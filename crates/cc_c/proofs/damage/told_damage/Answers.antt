-- One rect more is told.
use Rattle.cc_c.proofs.WrittenRects.{few_more, count_more, rects_more}
use Rattle.cc_c.proofs.damage.told_damage.Goals as goal

pub loop-rect-preserved : goal.loop-rect-preserved
loop-rect-preserved c =
    let f = c.args.frame.now in
    let n = c.loop-rect in
    let put = c.put_rect-count in
    record {
      few = few_more n.rect-index n.count put.result _ n.invariant.few put.ensures.count;
      count = count_more f.w f.h c.args.damage.now n.rect-index n.count put.result _ c.loop-rect-test.true n.invariant.count put.ensures.count;
      rects = rects_more f.w f.h c.args.damage.now n.rect-index n.count _ c.args.to.now n.to put.new.to c.loop-rect-test.true n.invariant.count n.invariant.rects put.ensures.rects;
    }
