-- The image of a draw.
use Rattle.std.proofs.Common.{sym, ◌∙◌, ap}
use Rattle.std.specs.Prelude.{option_copied}
use Rattle.page_layers.proofs.KeptPages.{weaken}
use Rattle.impl_log.specs.Runs.{past}
use Rattle.recording_check.proofs.RightPieces.{drawn_right}
use Rattle.recording_check.proofs.right.is_image.Goals as goal

pub returns-in-Some : goal.returns-in-Some
returns-in-Some c =
    let r = c.args.judge.now in
    weaken c.is_drawn.result (λ yes tells. drawn_right r.script (past r) c.args.event.now c.args.image.now c.in-Some.missing.now yes (sym c.missing_of.ensures ∙ ap option_copied c.in-Some.is) tells) c.is_drawn.ensures
