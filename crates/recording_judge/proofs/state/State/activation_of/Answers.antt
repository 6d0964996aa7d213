-- What the pending tree needs is ready, or is not.
use Rattle.std.proofs.Common.{refl, sym, ◌∙◌}
use Rattle.model_history.specs.Tiles.{required}
use Rattle.impl_log.specs.Runs.{past}
use Rattle.recording_judge.proofs.DueEvents.{activate_is, activate_not}
use Rattle.recording_judge.proofs.state.State.activation_of.Goals as goal

pub returns-in_ok-clamps : goal.returns-in_ok-clamps
returns-in_ok-clamps c =
    let r = c.args.self.now.log in
    activate_is r.script (past r) c.args.frame c.requires.waits (required r.script (past r)) refl (sym c.in_ok-ready.ensures ∙ c.if-ready.true) c.in_ok-clamps.clamps c.in_ok-clamps.ensures

pub returns-else-ready : goal.returns-else-ready
returns-else-ready c =
    let r = c.args.self.now.log in
    activate_not r.script (past r) c.args.frame c.requires.waits (required r.script (past r)) refl (sym c.in_ok-ready.ensures ∙ c.if-ready.false)
