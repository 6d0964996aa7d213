-- What is said of the parts is said of the whole.
use Rattle.std.proofs.Common.{ℕ, subst}
use Rattle.std.specs.Prelude.{Result}
use Rattle.recording_text.specs.Views.{views_of}
use Rattle.recording_check.specs.declared.verdict.Verdict.{Verdict}
use Rattle.recording_check.specs.inner.Judgements.{JudgesParts}
use Rattle.recording_check.proofs.LegalRecordings.{judged_whole}
use Rattle.recording_check.proofs.judging.check.Goals as goal

pub returns-in-Ok-Ok : goal.returns-in-Ok-Ok
returns-in-Ok-Ok c =
    let s = c.in-Ok.opening.script in
    judged_whole c.args.bytes.now s c.in-Ok.opening.end c.in-Ok-Ok.verdict c.in-Ok.ensures.0
    (subst (λ (r : Result Verdict ℕ). JudgesParts c.args.bytes.now s 16 (views_of s) c.in-Ok.opening.end r) c.in-Ok-Ok.field-0-is c.in-Ok-Ok.ensures)
