-- The frame that was sent last was run, and the main side knows whether it changed something.
use Rattle.std.proofs.Common.{◌≡◌, ℕ, Some, subst}
use Rattle.model_history.specs.EventFields.{sends}
use Rattle.model_history.specs.Scans.{newest}
use Rattle.model_history.specs.Frames.{changes, pulls_of}
use Rattle.impl_log.specs.Runs.{past}
use Rattle.proxy_single_thread.specs.Singles.{SingleModel}
use Rattle.proxy_single_thread.proofs.Walked.{main_tells}
use Rattle.proxy_single_thread.proofs.compositor.SingleThreadCompositor.changes.Goals as goal

pub returns-clause-answer : goal.returns-clause-answer
returns-clause-answer c =
    subst (λ (z : SingleModel). (k : ℕ) → newest sends (past z.run) ≡ Some k → c.run.new.self.changed ≡ changes z.run.script (pulls_of (past z.run)) k) c.self.view_is
    (main_tells c.self.inside.core c.run.new.self c.is_legal.ensures.legal c.in_ok-run.ensures.stands c.in_ok-run.ensures.run)
