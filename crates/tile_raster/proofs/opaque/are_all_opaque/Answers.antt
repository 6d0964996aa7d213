-- Each row is opaque, or a pixel that is not is found.
use Rattle.std.proofs.Common.{sym, subst, ap, ◌∙◌, arith}
use Rattle.pixel.specs.Colours.{Parts}
use Rattle.tile_raster.specs.inner.Bands.{IsEnd}
use Rattle.tile_raster.proofs.KeptRows.{same_alpha, other_alpha}
use Rattle.tile_raster.proofs.opaque.are_all_opaque.Goals as goal

pub returns-then-not-is_opaque_row : goal.returns-then-not-is_opaque_row
returns-then-not-is_opaque_row c = record {
  yes = λ t. absurd (cc);
  no = λ f.
      other_alpha c.args.list.now c.args.rect c.row_of.result.now c.loop-y.y (omega (arith, c.height_of-height.ensures, c.loop-y-test.true)) c.row_of.ensures
      (c.is_opaque_row.ensures.no (cc));
}

pub loop-y-preserved : goal.loop-y-preserved
loop-y-preserved c =
    let size = c.row_of.ensures.size in
    let stop = subst (λ n. IsEnd n c.args.rows.now.places.items c.loop-y.y c.end_of-y.result) c.height_of-height.ensures c.end_of-y.ensures in
    record {
      inside = c.end_of-y.ensures.inside;
      opaque =
          same_alpha c.args.list.now c.args.rect c.args.rows.now.places.items c.args.rows.now.bytes.items c.loop-y.y c.end_of-y.result
          c.requires.kept stop c.loop-y.invariant.opaque
          (λ x lt. ap (λ (p : Parts). p.a) (sym (c.row_of.ensures.pixels x lt)) ∙ c.is_opaque_row.ensures.yes (cc) x (omega (arith, size)));
    }
