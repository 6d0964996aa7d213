use Rattle.std.proofs.Common.{◌≡◌, ℕ, ◌∙◌, ap, arith}
use Rattle.std.proofs.lemmas.Bool.Decides.{nat_tests}
use Rattle.std.specs.Prelude.{length}
use Rattle.impl_log.specs.declared.progress.Progress.{Progress}
use Rattle.cc_live.specs.Lives.{LiveModel}
use Rattle.cc_live.proofs.ToldRuns.{all_used}
use Rattle.cc_live.proofs.live.Live.has_room.Goals as goal

pub returns-clause-room : goal.returns-clause-room
returns-clause-room c = λ t.
    let many : c.progress.result.inputs ≡ length c.args.self.now.run.script.inputs =
    all_used c.self.inside.core c.self.inside.waits c.progress.result.inputs c.self.inside.jobs.items c.self.invariant.0 (ap (λ (l : LiveModel). l.waits) c.self.view_is ∙ c.requires) (ap (λ (p : Progress). p.inputs) c.progress.ensures)
    ∙ ap (λ (l : LiveModel). length l.run.script.inputs) c.self.view_is in
    grind (arith, nat_tests, many, t)

pub returns-clause-worn : goal.returns-clause-worn
returns-clause-worn c = λ f.
    let many : c.progress.result.inputs ≡ length c.args.self.now.run.script.inputs =
    all_used c.self.inside.core c.self.inside.waits c.progress.result.inputs c.self.inside.jobs.items c.self.invariant.0 (ap (λ (l : LiveModel). l.waits) c.self.view_is ∙ c.requires) (ap (λ (p : Progress). p.inputs) c.progress.ensures)
    ∙ ap (λ (l : LiveModel). length l.run.script.inputs) c.self.view_is in
    grind (arith, nat_tests, many, f)
