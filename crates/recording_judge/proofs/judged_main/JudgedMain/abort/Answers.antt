-- The end that is kept is that of the frame in flight.
use Rattle.std.proofs.Common.{◌∙◌}
use Rattle.recording_judge.proofs.MainSteps.{abort_due}
use Rattle.recording_judge.proofs.judged_main.JudgedMain.abort.Goals as goal

pub returns : goal.returns
returns c = λ s n h legal m is_open. c.abort_event.ensures ∙ abort_due s n h legal c.args.self.now m is_open
