-- The queue tells which key is first.
use Rattle.std.proofs.Common.{refl, sym, ◌∙◌}
use Rattle.model_history.specs.Ranking.{rank_to_start}
use Rattle.impl_log.specs.Runs.{past}
use Rattle.recording_judge.proofs.DueEvents.{first_key, none_first, start_none}
use Rattle.recording_judge.proofs.state.State.start_free.Goals as goal

pub start_of-requires-clause-first : goal.start_of-requires-clause-first
start_of-requires-clause-first c =
    let r = c.args.self.now.log in
    first_key r.script (past r) (rank_to_start r.script (past r)) c.in-Some.key refl (sym c.in-Some.is ∙ c.first.ensures r.script r.workers (past r) c.requires.state.tiles)

pub returns-in-None : goal.returns-in-None
returns-in-None c =
    let r = c.args.self.now.log in
    start_none r.script (past r) c.args.actor c.requires.free (none_first r.script (past r) (rank_to_start r.script (past r)) refl (sym c.in-None.is ∙ c.first.ensures r.script r.workers (past r) c.requires.state.tiles))
