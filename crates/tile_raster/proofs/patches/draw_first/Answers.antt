-- The row is drawn at its place, which no row above it has.
use Rattle.std.proofs.Common.{List, refl, ap, ◌∙◌, slice_index}
use Rattle.page_display_list.specs.Bitmaps.{near}
use Rattle.tile_raster.specs.declared.spans.Span.{Span}
use Rattle.tile_raster.specs.inner.Bands.{IsRepeated}
use Rattle.tile_raster.specs.inner.Patches.{spans_show}
use Rattle.tile_raster.proofs.Places.{place_below}
use Rattle.tile_raster.proofs.PatchRows.{more_drawn}
use Rattle.tile_raster.proofs.patches.draw_first.Goals as goal

pub draw_spans-requires-clause-place : goal.draw_spans-requires-clause-place
draw_spans-requires-clause-place c =
    place_below (IsRepeated c.args._list.now c.args.rect) (near c.args.rect.h) c.args.places.now c.args.kept c.args.y c.requires.steps c.requires.kept
    c.requires.inside

pub returns-clause-drawn : goal.returns-clause-drawn
returns-clause-drawn c =
    let drawn = rw c.width_of.ensures at c.draw_spans.ensures.drawn in
    let others = rw c.width_of.ensures at c.draw_spans.ensures.others in
    more_drawn c.args._list.now c.args.rect c.args.places.now c.requires.steps c.args.bytes.now c.draw_spans.new.bytes c.args.kept
    (slice_index c.args.places.now c.args.y) c.args.y c.requires.kept c.requires.inside refl c.requires.first c.requires.drawn
    (λ x xw.
    drawn x xw
    ∙ ap (λ (l : List Span). spans_show l x) c.as_slice.ensures.value
    ∙ c.in_ok-put_spans.ensures x
    ∙ c.requires.shows x c.args.y xw c.requires.inside)
    others
