-- Equal rows have equal alphas.
use Rattle.std.proofs.Common.{arith}
use Rattle.viz_occlusion.proofs.AlphaSteps.{other_at, rows_more}
use Rattle.viz_occlusion.proofs.opaque.is_opaque_part.Goals as goal

pub returns-in-Some-clause-no : goal.returns-in-Some-clause-no
returns-in-Some-clause-no c = λ f.
    let k = c.in-Some.ensures in
    other_at c.args.image.now c.args.part c.row.result.now c.loop-y.y c.in-Some._column c.loop-y-test.true k.0 k.1 c.requires.across c.row.ensures.pixels k.2

pub loop-y-preserved : goal.loop-y-preserved
loop-y-preserved c =
    let inside = c.same.ensures.inside in
    record {
      inside = omega arith;
      opaque =
          rows_more c.args.image.now c.args.part c.row.result.now c.loop-y.y c.same.result c.requires.across c.row.ensures.pixels c.in_default.ensures
          c.same.ensures.equal c.loop-y.invariant.opaque;
    }
