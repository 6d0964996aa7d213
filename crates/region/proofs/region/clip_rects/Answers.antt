use Rattle.std.proofs.Common.{arith, length, ◌<◌, length-set}
use Rattle.std.proofs.lemmas.List.Elements.{All-set}
use Rattle.geom.specs.declared.rect.Rect.{Rect}
use Rattle.geom.specs.Covers.{IsSound}
use Rattle.region.proofs.Covering.{cut_more, cut_all}
use Rattle.region.proofs.region.clip_rects.Goals as goal

pub loop-i-preserved : goal.loop-i-preserved
loop-i-preserved c =
    let lt : c.loop-i.i < length c.args.rects.now.items = omega arith in
    record {
      rects = rw c.intersect-cut.ensures.value (cut_more c.args.rects.now.items c.loop-i.rects.items c.args.r c.loop-i.i c.index.result.now lt c.loop-i.invariant.rects c.index.ensures);
      long = omega (arith, length-set {A = Rect});
      sound = All-set IsSound c.loop-i.rects.items c.loop-i.i c.intersect-cut.result c.intersect-cut.ensures.sound c.loop-i.invariant.sound;
    }

pub returns-clause-points : goal.returns-clause-points
returns-clause-points c = cut_all c.args.rects.now.items c.loop-i.rects.items c.args.r c.loop-i.i (omega arith) c.loop-i.invariant.rects
