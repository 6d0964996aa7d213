use Rattle.std.proofs.Common.{◌≡◌, ℕ, ◌∙◌, ap, arith}
use Rattle.std.proofs.lemmas.Bool.Decides.{nat_tests}
use Rattle.std.specs.Prelude.{length}
use Rattle.model_history.specs.Frames.{is_left}
use Rattle.impl_log.specs.Runs.{past}
use Rattle.impl_log.specs.declared.progress.Progress.{Progress}
use Rattle.cc_live.specs.Lives.{LiveModel}
use Rattle.cc_live.proofs.ToldRuns.{all_sent_is}
use Rattle.cc_live.proofs.live.Live.has_room_for_frame.Goals as goal

pub returns-clause-room : goal.returns-clause-room
returns-clause-room c = λ t.
    let many : c.progress.result.sends ≡ length c.args.self.now.run.script.main =
    all_sent_is c.self.inside.core.script c.self.inside.core.workers (past c.self.inside.core) c.progress.result.sends c.is_legal.ensures.legal
    (ap (λ (l : LiveModel). is_left l.run.script (past l.run)) c.self.view_is ∙ c.requires) (ap (λ (p : Progress). p.sends) c.progress.ensures)
    ∙ ap (λ (l : LiveModel). length l.run.script.main) c.self.view_is in
    grind (arith, nat_tests, many, t)

pub returns-clause-worn : goal.returns-clause-worn
returns-clause-worn c = λ f.
    let many : c.progress.result.sends ≡ length c.args.self.now.run.script.main =
    all_sent_is c.self.inside.core.script c.self.inside.core.workers (past c.self.inside.core) c.progress.result.sends c.is_legal.ensures.legal
    (ap (λ (l : LiveModel). is_left l.run.script (past l.run)) c.self.view_is ∙ c.requires) (ap (λ (p : Progress). p.sends) c.progress.ensures)
    ∙ ap (λ (l : LiveModel). length l.run.script.main) c.self.view_is in
    grind (arith, nat_tests, many, f)
