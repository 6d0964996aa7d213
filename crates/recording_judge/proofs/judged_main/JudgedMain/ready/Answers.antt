-- The end that is kept is that of the frame in flight.
use Rattle.std.proofs.Common.{◌∙◌}
use Rattle.recording_judge.proofs.MainSteps.{ready_due}
use Rattle.recording_judge.proofs.judged_main.JudgedMain.ready.Goals as goal

pub returns : goal.returns
returns c = λ s n h legal m is_open. c.ready_event.ensures ∙ ready_due s n h legal c.args.self.now m is_open
