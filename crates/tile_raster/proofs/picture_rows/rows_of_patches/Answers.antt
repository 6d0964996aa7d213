-- What the list shows in rows that are not marked, it shows in the rows above them too.
use Rattle.std.proofs.Common.{refl}
use Rattle.std.specs.Prelude.{⊤}
use Rattle.page_display_list.specs.Bitmaps.{near}
use Rattle.tile_raster.specs.inner.Bands.{IsRepeated}
use Rattle.tile_raster.proofs.Places.{steps_of_marks}
use Rattle.tile_raster.proofs.PatchRows.{shown_repeated}
use Rattle.tile_raster.proofs.picture_rows.rows_of_patches.Goals as goal

pub drawn_patches-requires-clause-steps : goal.drawn_patches-requires-clause-steps
drawn_patches-requires-clause-steps c =
    steps_of_marks (IsRepeated c.args.list.now c.args.rect) (near c.args.rect.h) c.in_ok-changes.changes.items c.deref.result.now
    c.in_ok-places.places.items c.deref-2.result.now c.deref.ensures.value c.deref-2.ensures.value c.in_ok-changes.ensures.count c.in_ok-places.ensures
    (λ y lt same. shown_repeated c.args.list.now c.args.rect c.args.patches.now y c.requires.shows lt (c.in_ok-changes.ensures.level y same))

pub with_ends-requires-clause-steps : goal.with_ends-requires-clause-steps
with_ends-requires-clause-steps c =
    steps_of_marks (λ y. ⊤) (near c.args.rect.h) c.in_ok-changes.changes.items c.deref.result.now
    c.in_ok-places.places.items c.in_ok-places.places.items c.deref.ensures.value refl c.in_ok-changes.ensures.count c.in_ok-places.ensures
    (λ y lt same. tt)
