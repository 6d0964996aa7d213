use Rattle.player_run.proofs.WrittenWholes.{stepped_is_legal, played_is_legal}
use Rattle.player_run.proofs.laws.written_recordings_are_legal.Goals as goal

pub returns-clause-step : goal.returns-clause-step
returns-clause-step c = stepped_is_legal

pub returns-clause-play : goal.returns-clause-play
returns-clause-play c = played_is_legal
