-- No frame was run.
use Rattle.recording_judge.proofs.MainSteps.{begin_main}
use Rattle.recording_judge.proofs.judged_main.JudgedMain.new.Goals as goal

pub returns : goal.returns
returns c = begin_main c.args.script.value _ c.new.ensures.script c.new.ensures.sends
