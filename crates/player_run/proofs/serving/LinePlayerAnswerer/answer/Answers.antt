-- A line that is no script is refused, one that is is played.
use Rattle.player_run.proofs.ServedLines.{none_told, told_answer}
use Rattle.player_run.proofs.serving.LinePlayerAnswerer.answer.Goals as goal

pub returns-in-Ok-clause-answered : goal.returns-in-Ok-clause-answered
returns-in-Ok-clause-answered g c = c.play_line.ensures.answered c.args.line.now c.requires.short c.in-Ok.ensures.script.0 c.in-Ok.ensures.script.1

pub returns-in-Err-clause-answered : goal.returns-in-Err-clause-answered
returns-in-Err-clause-answered g c =
    told_answer _ _ c.args.line.now c.in-Err.outcome _ _ c.put_verdict.result (none_told _ c.args.line.now c.in-Err.outcome c.in-Err.ensures.script) c.put_verdict.ensures.said

pub play_line-requires-sync-R : goal.play_line-requires-sync-R
play_line-requires-sync-R g c κs within = record { shared = c.requires.sync.shared }
