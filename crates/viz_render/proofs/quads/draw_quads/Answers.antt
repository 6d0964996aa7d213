-- Each quad is drawn over what was drawn, where it is seen.
use Rattle.std.proofs.Common.{pos, ◌+ℤ◌, ◌∙◌, arith}
use Rattle.std.specs.Prelude.{length}
use Rattle.viz_render.specs.inner.Drawing.{colours}
use Rattle.viz_render.proofs.QuadSteps.{seen_more, drawn_all, drawable}
use Rattle.viz_render.proofs.quads.draw_quads.Goals as goal

pub loop-k-preserved : goal.loop-k-preserved
loop-k-preserved c = record {
  pixels = λ x y xw yh seen.
      seen_more c.args.area c.args.passes.now c.args.below c.args.quads.now c.args.mask.now.tops c.loop-k.k c.index-quads-k.result c.loop-k.surface c.draw_quad.new.surface x y
      c.requires.marked c.loop-k-test.true c.index-quads-k.is (λ low. c.loop-k.invariant.pixels x y xw yh low) (c.draw_quad.ensures.pixels x y xw yh seen) xw yh seen;
  premultiplied = λ old. c.draw_quad.ensures.premultiplied (c.loop-k.invariant.premultiplied old);
}

pub draw_quad-requires-clause-quad : goal.draw_quad-requires-clause-quad
draw_quad-requires-clause-quad c =
    drawable (length c.args.passes.now) c.args.quads.now c.loop-k.k c.index-quads-k.result c.requires.quads c.loop-k-test.true c.index-quads-k.is

pub returns-clause-pixels : goal.returns-clause-pixels
returns-clause-pixels c = λ x y xw yh seen.
    let px = c.args.area.x +ℤ pos x in
    let py = c.args.area.y +ℤ pos y in
    c.loop-k.invariant.pixels x y xw yh (omega (arith, c.loop-k-test.false))
    ∙ drawn_all (colours c.args.passes.now px py) px py c.args.below c.args.quads.now c.loop-k.k c.loop-k-test.false
