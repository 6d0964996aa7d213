-- Each entry that moves stays right.
use Rattle.page_hit_test.proofs.found.make_room.Goals as goal

pub loop-moved-preserved : goal.loop-moved-preserved
loop-moved-preserved g c = record {
  table = λ f h. c.move_on.ensures.table f (c.loop-moved.invariant.table f h);
  room = c.move_on.ensures.room;
}
