-- The counts of a run in lockstep.
use Rattle.model_history.specs.declared.history.Entry.{Entry}
use Rattle.std.specs.Prelude.{List}
use Rattle.model_history.specs.Lockstep.{IsLockstep}
use Rattle.model_history.specs.Scripts.{ScriptModel}
use Rattle.script_json.specs.Recordings.{recording}
use Rattle.player_uses.specs.Summaries.{IsSummary}
use Rattle.player_uses.specs.declared.summary.Summary.{Summary}

-- they are those of a script in lockstep, and of its recording
abbrev pub IsDemoSummary : ScriptModel → Summary → Type 0
IsDemoSummary s summary = (history : List Entry) × IsLockstep s history × IsSummary history (recording s history) summary
