use Rattle.std.proofs.Common.{reverse, ap, sym, ◌∙◌, nat_lt}
use Rattle.model_history.specs.Frames.{has_frame_ended}
use Rattle.impl_log.specs.declared.progress.Progress.{Progress}
use Rattle.impl_log.specs.Progress.{ended_frames}
use Rattle.impl_log.specs.Runs.{Run, past}
use Rattle.impl_log.proofs.ProgressSteps.{ended_is}
use Rattle.impl_log.proofs.log.Log.has_frame_ended.Goals as goal

pub returns : goal.returns
returns c =
    let k = c.args.frame in
    ap (λ n. nat_lt k n) (c.ended_frames.ensures ∙ ap (λ (p : Progress). ended_frames p) c.self.invariant.0.progress)
    ∙ sym (ended_is c.self.inside.plan c.self.inside.workers (reverse c.self.inside.history.entries) k c.self.invariant.0.legal)
    ∙ ap (λ (r : Run). has_frame_ended (past r) k) c.self.view_is
