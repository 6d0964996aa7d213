-- A piece more, after a wrong one or after right ones.
use Rattle.std.proofs.Common.{sym, ◌∙◌, subst}
use Rattle.std.specs.Prelude.{Bool}
use Rattle.recording_check.specs.inner.Judgements.{JudgesNext}
use Rattle.recording_check.proofs.JudgedPieces.{passed, looked_at, told_by}
use Rattle.recording_check.proofs.judging.judge_next.Goals as goal

pub returns-then-is_some : goal.returns-then-is_some
returns-then-is_some c = passed c.args.bytes.now c.args.judge.now c.args.wrong c.args.index c.args.step (sym c.is_some.ensures ∙ c.if-is_some.true)

pub returns-then-is_right : goal.returns-then-is_right
returns-then-is_right c =
    subst (λ (b : Bool). JudgesNext c.args.bytes.now c.args.judge.now c.args.wrong c.args.index c.args.step c.enter_step.new.judge (told_by b c.args.index)) c.if-is_right.true
    (looked_at c.args.bytes.now c.args.judge.now c.enter_step.new.judge c.args.wrong c.args.index c.args.step c.in_ok-is_right.is_right c.requires.image (sym c.is_some.ensures ∙ c.if-is_some.false) c.requires.stands c.in_ok-is_right.ensures)

pub returns-else-is_right : goal.returns-else-is_right
returns-else-is_right c =
    subst (λ (b : Bool). JudgesNext c.args.bytes.now c.args.judge.now c.args.wrong c.args.index c.args.step c.enter_step.new.judge (told_by b c.args.index)) c.if-is_right.false
    (looked_at c.args.bytes.now c.args.judge.now c.enter_step.new.judge c.args.wrong c.args.index c.args.step c.in_ok-is_right.is_right c.requires.image (sym c.is_some.ensures ∙ c.if-is_some.false) c.requires.stands c.in_ok-is_right.ensures)
