-- Each band adds what it draws to what was drawn.
use Rattle.std.proofs.Common.{ℕ, ◌≡◌, subst, arith}
use Rattle.pixel.specs.Colours.{Parts, blend}
use Rattle.pixel.specs.Surfaces.{within_rows}
use Rattle.viz_render.specs.inner.Drawing.{part_pixel}
use Rattle.viz_render.specs.inner.Masks.{EachOpen}
use Rattle.viz_render.proofs.Rows.{rows_more}
use Rattle.viz_render.proofs.tile.draw_part.Goals as goal

pub loop-done-preserved : goal.loop-done-preserved
loop-done-preserved c = record {
  inside = omega (arith, c.draw_band-done.ensures.most);
  pixels =
      rows_more c.args.size.width c.args.size.height c.args.seen.mask.now.tops c.args.seen.number c.args.part.at c.loop-done.done c.draw_band-done.result
      (λ x y below. blend below (part_pixel c.args.image.now c.args.part x y)) c.args.surface.now c.loop-done.surface c.draw_band-done.new.surface
      c.loop-done.invariant.pixels c.draw_band-done.ensures.pixels;
  premultiplied = λ old. c.draw_band-done.ensures.premultiplied (c.loop-done.invariant.premultiplied old);
}

pub returns-clause-pixels : goal.returns-clause-pixels
returns-clause-pixels c =
    let f : ℕ → ℕ → Parts → Parts = λ x y below. blend below (part_pixel c.args.image.now c.args.part x y) in
    let all : c.loop-done.done ≡ c.args.part.at.h = omega (arith, c.loop-done.invariant.inside, c.loop-done-test.false) in
    subst (λ (n : ℕ). EachOpen c.args.size.width c.args.size.height c.args.seen.mask.now.tops c.args.seen.number (within_rows c.args.part.at n f) c.args.surface.now c.loop-done.surface) all
    c.loop-done.invariant.pixels
