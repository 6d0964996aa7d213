-- A pixel that is not there.
use Rattle.std.proofs.Common.{rules, ◌≡◌, ◌<◌, None, sym, ◌∙◌, ap}
use Rattle.std.specs.Prelude.{option_copied}
use Rattle.pixel.specs.Colours.{Parts}
use Rattle.pixel.specs.Rows.{pixel}
use Rattle.model_history.specs.Recordings.{rgb}
use Rattle.recording_check.specs.inner.Behind.{behind}
use Rattle.recording_check.proofs.FrontFacts.{stops}
use Rattle.recording_check.proofs.picture.behind_row.Goals as goal

pub returns-in-None : goal.returns-in-None
returns-in-None c =
    let none : behind (rgb (pixel c.args.row.now c.loop-x.x)) c.loop-x.rest.now ≡ None =
    ap (λ (k : Parts). behind (rgb k) c.loop-x.rest.now) (sym c.colour_at.ensures) ∙ (sym c.behind_pixel.ensures ∙ ap option_copied c.in-None.is) in
    let lt : c.loop-x.x < c.args.w = search rules in
    stops (λ x. rgb (pixel c.args.row.now x)) c.loop-x.x c.args.w c.args.bytes.now c.loop-x.rest.now lt c.loop-x.invariant none
