-- An input that was used is not known any more.
use Rattle.std.proofs.Common.{ℕ, sym, ◌∙◌, ap, subst}
use Rattle.impl_log.specs.declared.progress.Progress.{Progress}
use Rattle.impl_log.specs.inner.Known.{AreKnown}
use Rattle.impl_log.proofs.ProgressSteps.{inputs_step}
use Rattle.impl_log.proofs.log.add.Goals as goal

pub returns-clause-known : goal.returns-clause-known
returns-clause-known c = λ inputs known.
    subst (λ (used : ℕ). AreKnown inputs used c.step.new.self) (sym (ap (λ (p : Progress). p.inputs) c.after.ensures ∙ inputs_step c.args.entry.event c.args.progress.now)) (c.step.ensures inputs c.args.progress.now.inputs known)
