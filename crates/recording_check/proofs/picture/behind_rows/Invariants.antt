-- The rows so far are those of the screen.
use Rattle.std.proofs.Common.{◌≡◌, ℕ, List, Some}
use Rattle.geom.specs.declared.rect.Point.{Point}
use Rattle.geom.specs.declared.tile.TileKey.{TileKey}
use Rattle.page_layers.specs.Pages.{Page}
use Rattle.page_layers.specs.Paintings.{ReadyShows}
use Rattle.recording_check.specs.inner.Behind.{behind_each, pixel_of, row_text}
use Rattle.recording_check.specs.inner.Sheets.{ready}
use Rattle.recording_check.proofs.picture.behind_rows.Given as goal

abbrev pub invariant-loop-y : goal.invariant-loop-y
invariant-loop-y l =
    (p : Page) (offset : ℕ → Point) (missing : List TileKey) → ReadyShows p offset missing (ready l.painting.view.tile l.painting.sheets.now) → behind_each l.y (row_text (pixel_of p offset missing l.painting.background) l.painting.view.w) l.bytes ≡ Some l.rest
