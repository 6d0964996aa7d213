-- The queue tells whether one may start.
use Rattle.std.proofs.Common.{refl, sym, ◌∙◌}
use Rattle.model_history.specs.Ranking.{rank_to_start}
use Rattle.model_history.specs.Tiles.{in_flight}
use Rattle.model_history.specs.Frames.{is_empty}
use Rattle.impl_log.specs.Runs.{past}
use Rattle.recording_judge.proofs.DueEvents.{first_key, none_first, settled_none, settled_some}
use Rattle.recording_judge.proofs.state.State.is_settled.Goals as goal

pub returns-in-Some : goal.returns-in-Some
returns-in-Some c =
    let r = c.args.self.now.log in
    let f = first_key r.script (past r) (rank_to_start r.script (past r)) _ refl (sym c.in-Some.is ∙ c.first.ensures r.script r.workers (past r) c.requires.state.tiles) in
    settled_some (is_empty (in_flight (past r))) (rank_to_start r.script (past r)) f.rank f.is_first

pub returns-in-None : goal.returns-in-None
returns-in-None c =
    let r = c.args.self.now.log in
    let none = none_first r.script (past r) (rank_to_start r.script (past r)) refl (sym c.in-None.is ∙ c.first.ensures r.script r.workers (past r) c.requires.state.tiles) in
    c.has_landed-landed.ensures ∙ settled_none (is_empty (in_flight (past r))) (rank_to_start r.script (past r)) none
