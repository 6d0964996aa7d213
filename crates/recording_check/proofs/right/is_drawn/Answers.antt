-- The painting of what is shown.
use Rattle.std.proofs.Common.{subst}
use Rattle.std.specs.Prelude.{Option}
use Rattle.page_layers.proofs.KeptPages.{weaken}
use Rattle.recording_judge.specs.declared.screen_state.ScreenState.{ScreenState}
use Rattle.recording_judge.specs.Judging.{IsShown, IsShownNow}
use Rattle.impl_log.specs.Runs.{past}
use Rattle.recording_check.proofs.RightPieces.{looked_at}
use Rattle.recording_check.proofs.right.is_drawn.Goals as goal

pub returns-in-Some : goal.returns-in-Some
returns-in-Some c =
    let r = c.args.judge.now in
    let is : IsShown r.script (past r) c.in-Some.shown = subst (λ (o : Option ScreenState). IsShownNow r.script (past r) o) c.in-Some.is c.in-Ok.ensures in
    weaken c.is_painted.result (λ yes decides. looked_at r.script (past r) c.args.missing.now c.in-Some.shown c.args.image.now yes is decides) c.is_painted.ensures
