-- A wrong image.
use Rattle.std.proofs.Common.{false, subst}
use Rattle.std.specs.Prelude.{Bool}
use Rattle.impl_log.specs.Runs.{past}
use Rattle.recording_check.specs.inner.Rightness.{TellsImage}
use Rattle.recording_check.proofs.RightPieces.{refused}
use Rattle.recording_check.proofs.right.enter_right.Goals as goal

pub returns-else-is_right : goal.returns-else-is_right
returns-else-is_right c =
    let r = c.args.judge.now in
    let wrong : TellsImage r.script (past r) c.args.entry.now.event c.args.image.now false = subst (λ (b : Bool). TellsImage r.script (past r) c.args.entry.now.event c.args.image.now b) c.if-is_right.false c.in_ok-is_right.ensures in
    refused r c.args.entry.now.event c.args.image.now wrong
