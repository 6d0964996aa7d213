-- One area more.
use Rattle.std.proofs.Common.{◌<◌, length, arith}
use Rattle.viz_damage.proofs.QuadSteps.{fits_at}
use Rattle.viz_damage.proofs.ListSteps.{area_more, held_more}
use Rattle.viz_damage.proofs.lists.add_areas.Goals as goal

pub area_of-requires-clause-fits : goal.area_of-requires-clause-fits
area_of-requires-clause-fits c =
    fits_at (length c.args.reaches.now) c.args.quads.now c.loop-place.place c.index-quads-place.result c.requires.quads (omega arith) c.index-quads-place.is

pub loop-place-preserved : goal.loop-place-preserved
loop-place-preserved c =
    let lt : c.loop-place.place < length c.args.quads.now = omega arith in
    record {
      changes =
          area_more c.args.reaches.now c.loop-place.damage.items c.add_area.new.damage.items c.area_of.result c.args.quads.now c.args.start c.loop-place.place
          c.index-quads-place.result lt c.index-quads-place.is c.in_ok-add_area.ensures.held c.area_of.ensures.within c.loop-place.invariant.changes;
      held =
          held_more c.loop-place.damage.items c.add_area.new.damage.items c.args.damage.now.items c.area_of.result c.in_ok-add_area.ensures.held
          c.loop-place.invariant.held;
      damage = c.add_area.ensures.damage;
    }
