-- One rect more, moved and cut.
use Rattle.std.proofs.Common.{rules}
use Rattle.cc.proofs.ScreenRects.{moved_more}
use Rattle.cc.proofs.edits.moved_into.Goals as goal

pub loop-rect-preserved : goal.loop-rect-preserved
loop-rect-preserved c =
    moved_more c.args.rects.now c.loop-rect.rect-index _ c.in_ok-place.place c.args.area c.args.by c.loop-rect.moved c.add_common.new.region c.loop-rect-test.true
    c.in_ok-place.ensures.value (search rules) c.loop-rect.invariant c.in_ok-add_common.ensures
