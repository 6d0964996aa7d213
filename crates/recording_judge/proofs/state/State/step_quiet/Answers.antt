-- All stays.
use Rattle.std.proofs.Common.{refl}
use Rattle.impl_log.specs.Runs.{past}
use Rattle.recording_judge.proofs.StateFacts.{quiet_keeps}
use Rattle.recording_judge.proofs.state.State.step_quiet.Goals as goal

pub returns : goal.returns
returns c =
    let r = c.args.self.now.log in
    let m = c.requires.may in
    record { log = refl; keeps = quiet_keeps r.script r.workers (past r) c.args.actor c.args.self.now.host c.args.self.now.tiles c.args.self.now.main c.args.event.now c.requires.quiet m.legal m.state }
