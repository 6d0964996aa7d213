-- The first bad part of the whole is that of what stands after the two lines.
use Rattle.std.proofs.Common.{ℕ, Err, subst}
use Rattle.std.specs.Prelude.{Result}
use Rattle.recording_text.specs.declared.body.Body.{Body}
use Rattle.recording_text.specs.Bodies.{ReadsBody}
use Rattle.recording_check.proofs.Wholes.{bad_read}
use Rattle.recording_check.proofs.recording.read_recording.Goals as goal

pub returns-in-Err-body : goal.returns-in-Err-body
returns-in-Err-body c =
    let stops : ReadsBody c.args.bytes.now c.in-Ok-new.views c.in-Ok.opening.end (Err c.in-Err-body.place) = subst (λ (r : Result Body ℕ). ReadsBody c.args.bytes.now c.in-Ok-new.views c.in-Ok.opening.end r) c.in-Err-body.is c.in-Ok-read_body.ensures in
    bad_read c.args.bytes.now c.in-Ok.opening.script c.in-Ok-new.views c.in-Err-body.place c.in-Ok.opening.end c.in-Ok.ensures.0 c.in-Ok.ensures.1 c.in-Ok-new.ensures stops
