-- The worker holds what the model says.
use Rattle.std.proofs.Common.{sym, ◌∙◌, arith}
use Rattle.impl_log.specs.Runs.{past}
use Rattle.recording_judge.proofs.DueEvents.{start_held}
use Rattle.recording_judge.proofs.state.State.start_due.Goals as goal

pub returns-in-Some : goal.returns-in-Some
returns-in-Some c =
    let r = c.args.self.now.log in
    let from = c.requires.actor.0 in
    let to = c.requires.actor.1 in
    start_held r.script (past r) c.args.actor _ (sym (c.held.ensures r.script r.workers (past r) c.requires.state.tiles (omega (arith, from, to))) ∙ c.in-Some.is)

pub start_free-requires-clause-free : goal.start_free-requires-clause-free
start_free-requires-clause-free c =
    let r = c.args.self.now.log in
    let from = c.requires.actor.0 in
    let to = c.requires.actor.1 in
    sym (c.held.ensures r.script r.workers (past r) c.requires.state.tiles (omega (arith, from, to))) ∙ c.in-None.is
