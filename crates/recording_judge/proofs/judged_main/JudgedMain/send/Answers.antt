-- The frame that is sent is the next one of the main side.
use Rattle.std.proofs.Common.{refl}
use Rattle.recording_judge.proofs.MainSteps.{frame_left, pulls_fit, sent_main}
use Rattle.recording_judge.proofs.judged_main.JudgedMain.send.Goals as goal

pub begin-requires-clause-left : goal.begin-requires-clause-left
begin-requires-clause-left c =
    let r = c.requires in
    frame_left r.script r.workers r.past r.actor r.frame c.args.pulls.now r.playable r.legal c.args.self.now r.main

pub begin-requires-clause-bounded : goal.begin-requires-clause-bounded
begin-requires-clause-bounded c =
    let r = c.requires in
    pulls_fit r.script r.workers r.past r.actor r.frame c.args.pulls.now r.playable r.legal c.args.self.now r.main

pub returns : goal.returns
returns c = λ s n h a k accepted legal m. sent_main s n h a k c.args.pulls.now accepted legal c.args.self.now m _ c.in_ok-end.end c.in_ok-end.ensures.0 refl c.in_ok-end.ensures.1
