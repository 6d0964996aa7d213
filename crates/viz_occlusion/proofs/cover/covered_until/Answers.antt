-- The rect covers more columns, down to its end at least.
use Rattle.std.proofs.Common.{◌≡◌, ◌+ℤ◌, arith, rules, ap, ◌∙◌, FitsSigned, to_z}
use Rattle.std.specs.Int.{int_min}
use Rattle.std.proofs.lemmas.Int.{ints, to_z-of_z}
use mir.Syntax.{w32}
use Rattle.viz_occlusion.proofs.CoverSteps.{block_more, right_end, lower_end, is_less, gap_falls}
use Rattle.viz_occlusion.proofs.cover.covered_until.Goals as goal

pub loop-x-smaller : goal.loop-x-smaller
loop-x-smaller c =
    let rl = c.ranges.left in
    let rr = c.ranges.right in
    let ry = c.ranges.y in
    let rb = c.ranges.bottom in
    let fx : FitsSigned w32 c.in-Some.rect.x = search rules in
    let fy : FitsSigned w32 c.in-Some.rect.y = search rules in
    let fw : FitsSigned w32 c.in-Some.rect.w = search rules in
    let fh : FitsSigned w32 c.in-Some.rect.h = search rules in
    let gx : FitsSigned w32 c.end_of-x.result = search rules in
    let gy : FitsSigned w32 c.end_of.result = search rules in
    let gm : FitsSigned w32 c.min-end.result = search rules in
    let e = simp to_z-of_z at c.end_of-x.ensures in
    let d = simp to_z-of_z at c.end_of.ensures in
    let m = simp to_z-of_z at c.min-end.ensures.value in
    let here = simp to_z-of_z at c.in-Some.ensures in
    let test = simp to_z-of_z at c.loop-x-test.true in
    simp to_z-of_z
    (gap_falls (to_z w32 c.loop-x.x-bits) c.end_of-x.result c.args.right (is_less (to_z w32 c.loop-x.x-bits) c.args.right test)
    (right_end c.args.cover.now (to_z w32 c.loop-x.x-bits) c.args.y c.in-Some.rect c.end_of-x.result here e))

pub loop-x-preserved : goal.loop-x-preserved
loop-x-preserved c =
    let rl = c.ranges.left in
    let rr = c.ranges.right in
    let ry = c.ranges.y in
    let rb = c.ranges.bottom in
    let fx : FitsSigned w32 c.in-Some.rect.x = search rules in
    let fy : FitsSigned w32 c.in-Some.rect.y = search rules in
    let fw : FitsSigned w32 c.in-Some.rect.w = search rules in
    let fh : FitsSigned w32 c.in-Some.rect.h = search rules in
    let gx : FitsSigned w32 c.end_of-x.result = search rules in
    let gy : FitsSigned w32 c.end_of.result = search rules in
    let gm : FitsSigned w32 c.min-end.result = search rules in
    let e = simp to_z-of_z at c.end_of-x.ensures in
    let d = simp to_z-of_z at c.end_of.ensures in
    let m = simp to_z-of_z at c.min-end.ensures.value in
    let here = simp to_z-of_z at c.in-Some.ensures in
    let left = simp to_z-of_z at c.loop-x.invariant.left in
    let some = simp to_z-of_z at c.loop-x.invariant.some in
    let inside = simp to_z-of_z at c.loop-x.invariant.inside in
    let block = simp to_z-of_z at c.loop-x.invariant.block in
    let x = to_z w32 c.loop-x.x-bits in
    let end = to_z w32 c.loop-x.end-bits in
    let low : c.min-end.result ≡ int_min (to_z w32 c.loop-x.end-bits) (c.in-Some.rect.y +ℤ c.in-Some.rect.h) = m ∙ ap (int_min (to_z w32 c.loop-x.end-bits)) d in
    let right = right_end c.args.cover.now x c.args.y c.in-Some.rect c.end_of-x.result here e in
    let lower = lower_end c.args.cover.now x c.args.y end c.min-end.result c.in-Some.rect here some low in
    simp to_z-of_z (record {
      left = omega (arith, ints, right, left);
      some = lower.0;
      inside = omega (arith, ints, lower.1, inside);
      block = block_more c.args.cover.now c.args.left x c.args.y end c.end_of-x.result c.min-end.result c.in-Some.rect block here e low;
    })
