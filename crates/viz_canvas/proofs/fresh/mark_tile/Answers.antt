-- Where the tile begins, ends and changes is marked.
use Rattle.std.proofs.Common.{length}
use Rattle.viz_canvas.proofs.FreshSteps.{even_part, stale_kept, tile_alike, tile_outside, rows_in}
use Rattle.viz_canvas.specs.inner.Fresh.{IsEven}
use Rattle.viz_canvas.proofs.fresh.mark_tile.Goals as goal

pub mark_bands-requires-clause-rows : goal.mark_bands-requires-clause-rows
mark_bands-requires-clause-rows c =
    rw (c.row_of.ensures)
    (rows_in c.args.from.y c.args.at.h c.args.image.now.rect.h c.in-Some.part.above c.in-Some.part.at.h c.requires.taken.top c.requires.at.down.length_low c.requires.taken.bottom c.in-Some.ensures.rows)

pub returns-in-Some-clause-alike : goal.returns-in-Some-clause-alike
returns-in-Some-clause-alike c =
    let even = even_part c.args.at c.args.area c.in-Some.part c.mark_ends.new.fresh (length c.args.fresh.now) c.in-Some.ensures c.requires.room c.mark_ends.ensures.first c.mark_ends.ensures.end in
    let bands = rw (c.row_of.ensures) at c.mark_bands.ensures.bands in
    tile_alike c.args.image.now c.args.at c.args.area c.args.from c.in-Some.part c.mark_bands.new.fresh c.requires.taken c.in-Some.ensures
    (stale_kept c.args.area c.mark_ends.new.fresh c.mark_bands.new.fresh (IsEven c.args.area c.args.at) c.mark_bands.ensures.keeps even) bands

pub returns-in_default-clause-alike : goal.returns-in_default-clause-alike
returns-in_default-clause-alike c = tile_outside c.args.image.now c.args.at c.args.area c.args.from c.args.fresh.now c.in_default.ensures
