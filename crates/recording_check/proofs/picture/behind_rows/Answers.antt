-- One row more, or one that is not there.
use Rattle.std.proofs.Common.{rules, ◌≡◌, ◌<◌, ℕ, Some, None, sym, ◌∙◌, ap}
use Rattle.std.specs.Prelude.{option_copied}
use Rattle.pixel.specs.Colours.{Parts}
use Rattle.pixel.specs.Rows.{pixel}
use Rattle.model_history.specs.Recordings.{rgb}
use Rattle.recording_check.specs.inner.Behind.{behind, behind_each, pixel_of, pixel_text, row_text}
use Rattle.recording_check.proofs.FrontFacts.{stops, one_more, row_behind, each_same}
use Rattle.recording_check.proofs.picture.behind_rows.Goals as goal

pub returns-in-None : goal.returns-in-None
returns-in-None c = λ p offset missing shows.
    let pixel_at : ℕ → ℕ → Parts = pixel_of p offset missing c.args.painting.now.background in
    let y = c.loop-y.y in
    let row : behind_each c.args.painting.now.view.w (λ x. rgb (pixel c.paint_row.new.row x)) c.loop-y.rest.now ≡ behind_each c.args.painting.now.view.w (pixel_text pixel_at y) c.loop-y.rest.now =
    each_same c.args.painting.now.view.w _ (pixel_text pixel_at y) c.loop-y.rest.now (λ x lt. ap rgb (c.in_ok-paint_row.ensures.pixels p offset missing shows x lt)) in
    let none : behind (row_text pixel_at c.args.painting.now.view.w y) c.loop-y.rest.now ≡ None =
    sym (row_behind pixel_at c.args.painting.now.view.w y c.loop-y.rest.now) ∙ sym row ∙ (sym c.behind_row.ensures ∙ ap option_copied c.in-None.is) in
    let lt : c.loop-y.y < c.args.painting.now.view.h = search rules in
    stops (row_text pixel_at c.args.painting.now.view.w) y c.args.painting.now.view.h c.args.bytes.now c.loop-y.rest.now lt (c.loop-y.invariant p offset missing shows) none

pub loop-y-preserved : goal.loop-y-preserved
loop-y-preserved c = λ p offset missing shows.
    let pixel_at : ℕ → ℕ → Parts = pixel_of p offset missing c.args.painting.now.background in
    let y = c.loop-y.y in
    let row : behind_each c.args.painting.now.view.w (λ x. rgb (pixel c.paint_row.new.row x)) c.loop-y.rest.now ≡ behind_each c.args.painting.now.view.w (pixel_text pixel_at y) c.loop-y.rest.now =
    each_same c.args.painting.now.view.w _ (pixel_text pixel_at y) c.loop-y.rest.now (λ x lt. ap rgb (c.in_ok-paint_row.ensures.pixels p offset missing shows x lt)) in
    let there : behind (row_text pixel_at c.args.painting.now.view.w y) c.loop-y.rest.now ≡ Some c.in-Some.next.now =
    sym (row_behind pixel_at c.args.painting.now.view.w y c.loop-y.rest.now) ∙ sym row ∙ (sym c.behind_row.ensures ∙ ap option_copied c.in-Some.is) in
    one_more (row_text pixel_at c.args.painting.now.view.w) y c.args.bytes.now c.loop-y.rest.now c.in-Some.next.now (c.loop-y.invariant p offset missing shows) there
