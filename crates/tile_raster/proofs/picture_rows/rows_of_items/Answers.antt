-- Rows that are not marked are level.
use Rattle.std.proofs.Common.{refl}
use Rattle.std.specs.Prelude.{⊤}
use Rattle.page_display_list.specs.Bitmaps.{near}
use Rattle.tile_raster.specs.inner.Bands.{AreLevel}
use Rattle.tile_raster.proofs.Places.{steps_of_marks}
use Rattle.tile_raster.proofs.picture_rows.rows_of_items.Goals as goal

pub drawn_items-requires-clause-steps : goal.drawn_items-requires-clause-steps
drawn_items-requires-clause-steps c =
    steps_of_marks (AreLevel c.args.list.now c.args.rect) (near c.args.rect.h) c.in_ok-changes.changes.items c.deref.result.now
    c.in_ok-places.places.items c.deref-2.result.now c.deref.ensures.value c.deref-2.ensures.value c.in_ok-changes.ensures.count c.in_ok-places.ensures
    c.in_ok-changes.ensures.level

pub with_ends-requires-clause-steps : goal.with_ends-requires-clause-steps
with_ends-requires-clause-steps c =
    steps_of_marks (λ y. ⊤) (near c.args.rect.h) c.in_ok-changes.changes.items c.deref.result.now
    c.in_ok-places.places.items c.in_ok-places.places.items c.deref.ensures.value refl c.in_ok-changes.ensures.count c.in_ok-places.ensures
    (λ y lt same. tt)
