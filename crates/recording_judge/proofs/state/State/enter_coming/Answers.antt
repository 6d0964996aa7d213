-- None may come.
use Rattle.std.proofs.Common.{refl, sym, ◌∙◌}
use Rattle.impl_log.specs.Runs.{past}
use Rattle.recording_judge.proofs.StateFacts.{none_comes}
use Rattle.recording_judge.proofs.state.State.enter_coming.Goals as goal

pub enter_event-requires-clause-due : goal.enter_event-requires-clause-due
enter_event-requires-clause-due c = sym c.in-Some.is ∙ c.requires.due

pub returns-in-None-clause-enters : goal.returns-in-None-clause-enters
returns-in-None-clause-enters c = let r = c.args.self.now.log in (λ x. none_comes r.script r.workers (past r) c.args.entry.now (sym c.in-None.is ∙ c.requires.due) x, refl)
