-- The layers are laid over the background.
use Rattle.std.proofs.Common.{◌<◌, ◌/◌, pos, length, arith, ap, ◌∙◌}
use Rattle.pixel.specs.Colours.{Parts}
use Rattle.pixel.specs.Rows.{pixel}
use Rattle.page_layers.specs.Painting.{folded, items_at}
use Rattle.recording_check.specs.inner.Sheets.{effects_of, colour_in}
use Rattle.recording_check.proofs.SheetTurns.{painted}
use Rattle.recording_check.proofs.picture.paint_row.Goals as goal

pub returns-clause-pixels : goal.returns-clause-pixels
returns-clause-pixels c = λ p offset missing shows x lt.
    let tile = c.args.painting.now.view.tile in
    let inside : x < length c.args.row.now / 4 = omega (arith, lt, c.requires.size) in
    painted p offset missing tile c.args.painting.now.sheets.now c.args.painting.now.background (pixel c.paint_from.new.row x) (pos x) (pos c.args.y) shows
    (λ opacity have.
    c.in_ok-paint_from.ensures.pixels opacity x have lt
    ∙ ap (λ (below : Parts). folded opacity (items_at effects_of (colour_in tile (pos x) (pos c.args.y)) 0 c.args.painting.now.sheets.now) below) (c.fill_row.ensures.pixels x inside))
