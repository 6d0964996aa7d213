-- The worker holds what the model says.
use Rattle.std.proofs.Common.{sym, ◌∙◌, arith}
use Rattle.impl_log.specs.Runs.{past}
use Rattle.recording_judge.proofs.DueEvents.{done_is, done_none}
use Rattle.recording_judge.proofs.state.State.done_due.Goals as goal

pub returns-in-Some : goal.returns-in-Some
returns-in-Some c =
    let r = c.args.self.now.log in
    let from = c.requires.actor.0 in
    let to = c.requires.actor.1 in
    done_is r.script (past r) c.args.actor _ (sym (c.held.ensures r.script r.workers (past r) c.requires.state.tiles (omega (arith, from, to))) ∙ c.in-Some.is)

pub returns-in-None : goal.returns-in-None
returns-in-None c =
    let r = c.args.self.now.log in
    let from = c.requires.actor.0 in
    let to = c.requires.actor.1 in
    done_none r.script (past r) c.args.actor (sym (c.held.ensures r.script r.workers (past r) c.requires.state.tiles (omega (arith, from, to))) ∙ c.in-None.is)
