-- Each row has the colour of the first pixel, or one that differs is found.
use Rattle.std.proofs.Common.{sym, subst, ◌∙◌, arith}
use Rattle.tile_raster.specs.inner.Bands.{IsEnd}
use Rattle.tile_raster.proofs.KeptRows.{same_colour, two_colours}
use Rattle.tile_raster.proofs.pixels.one_colour.Goals as goal

pub returns-in-Some : goal.returns-in-Some
returns-in-Some c =
    let size = c.row_of-in-loop-y.ensures.size in
    let inside = c.in-Some.ensures.0 in
    two_colours c.args.list.now c.args.rect c.row_of.result.now c.row_of-in-loop-y.result.now c.loop-y.y c.in-Some._other c.colour_at-first.result
    (omega (arith, size, inside)) (omega (arith, c.height_of-height.ensures, c.loop-y-test.true)) c.row_of.ensures c.row_of-in-loop-y.ensures c.colour_at-first.ensures
    (omega (arith, size, inside)) c.in-Some.ensures.1

pub loop-y-preserved : goal.loop-y-preserved
loop-y-preserved c =
    let size = c.row_of-in-loop-y.ensures.size in
    let stop = subst (λ n. IsEnd n c.args.rows.now.places.items c.loop-y.y c.end_of-y.result) c.height_of-height.ensures c.end_of-y.ensures in
    record {
      inside = c.end_of-y.ensures.inside;
      colour =
          same_colour c.args.list.now c.args.rect c.args.rows.now.places.items c.args.rows.now.bytes.items c.loop-y.y c.end_of-y.result
          c.colour_at-first.result c.requires.kept stop c.loop-y.invariant.colour
          (λ x lt. sym (c.row_of-in-loop-y.ensures.pixels x lt) ∙ c.in_default.ensures x (omega (arith, size)));
    }
