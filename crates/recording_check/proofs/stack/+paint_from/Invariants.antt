-- The layers that are left, laid over the row, make of each pixel what all layers make of it.
use Rattle.std.proofs.Common.{ℕ, ◌≡◌, ◌-◌, ◌<◌, pos, length}
use Rattle.pixel.specs.Rows.{pixel, ArePremultiplied}
use Rattle.page_layers.specs.Painting.{folded, items_at}
use Rattle.recording_check.specs.inner.Sheets.{effects_of, colour_in, HaveOpacities}
use Rattle.recording_check.proofs.stack.+paint_from.Given as goal

abbrev pub decreases-paint_from : goal.decreases-paint_from
decreases-paint_from l = 257 - l.depth

abbrev pub invariant-loop-first : goal.invariant-loop-first
invariant-loop-first l = record {
  painted : (opacity : ℕ → ℕ) → HaveOpacities opacity l.sheets →
      HaveOpacities opacity l.rest × ((x : ℕ) → x < l.at.width →
      folded opacity (items_at effects_of (colour_in l.at.tile (pos x) (pos l.at.y)) l.depth l.rest) (pixel l.row x)
      ≡ folded opacity (items_at effects_of (colour_in l.at.tile (pos x) (pos l.at.y)) l.depth l.sheets) (pixel l.initial.row x));
  premultiplied : ArePremultiplied l.initial.row → ArePremultiplied l.row;
}

abbrev pub decreases-loop-first : goal.decreases-loop-first
decreases-loop-first l = length l.rest
