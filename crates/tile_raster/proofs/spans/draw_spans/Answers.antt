-- One more run of the row is drawn.
use Rattle.std.proofs.Common.{sym, ap, ◌∙◌}
use Rattle.std.specs.Prelude.{fold}
use Rattle.std.proofs.lemmas.List.{take_rest}
use Rattle.pixel.specs.Colours.{clear}
use Rattle.tile_raster.specs.inner.Patches.{spanned}
use Rattle.tile_raster.proofs.RowRuns.{run_drawn, others_stay}
use Rattle.tile_raster.proofs.spans.draw_spans.Goals as goal

pub loop-x-preserved : goal.loop-x-preserved
loop-x-preserved c =
    let x = c.loop-x.x in
    let end = c.run_at-run.result.end in
    let colour = c.colour_at-colour.result in
    let each = rw c.area_of.ensures at c.fill_area.ensures.pixels in
    record {
      inside = c.run_at-run.ensures.inside;
      drawn =
          run_drawn c.args.size.width c.args.size.height c.args.place x end colour c.loop-x.bytes c.fill_area.new.surface each c.args.spans.now c.requires.place
          c.run_at-run.ensures.inside c.loop-x.invariant.drawn
          (λ z from to.
          c.run_at-run.ensures.alike z from to
          ∙ ap (fold (spanned x) clear) (sym (take_rest c.args.spans.now c.run_at-run.result.first))
          ∙ sym c.colour_at-colour.ensures);
      others = λ z y zw yk other.
          others_stay c.args.size.width c.args.size.height c.args.place x end colour c.loop-x.bytes c.fill_area.new.surface each z y zw yk other
          ∙ c.loop-x.invariant.others z y zw yk other;
      premultiplied = λ old. c.fill_area.ensures.premultiplied (c.loop-x.invariant.premultiplied old);
    }
