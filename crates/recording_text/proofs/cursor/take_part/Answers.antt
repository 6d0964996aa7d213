-- The part at the cursor, and what is read after it.
use Rattle.std.proofs.Common.{ℕ, drop, length, sym, ◌∙◌, subst, Ok}
use Rattle.std.specs.Prelude.{Result}
use Rattle.recording_text.specs.declared.part.RecordingPart.{RecordingPart}
use Rattle.recording_text.specs.inner.Within.{IsWithin}
use Rattle.recording_text.proofs.BodySteps.{step_good, step_bad}
use Rattle.recording_text.proofs.TakenPieces.{taken, refused}
use Rattle.recording_text.proofs.cursor.take_part.Goals as goal

pub returns-in-Ok-clause-step : goal.returns-in-Ok-clause-step
returns-in-Ok-clause-step c =
    let within : IsWithin (length (drop c.args.cursor.now.at c.args.bytes.now)) (Ok c.in-Ok.part) =
    subst (λ (r : Result RecordingPart ℕ). IsWithin (length (drop c.args.cursor.now.at c.args.bytes.now)) r) c.in-Ok.is c.in_ok-part.ensures.within in
    step_good c.args.bytes.now c.args.views.now c.args.cursor.now c.pass.new.cursor c.in-Ok.part c.pass.result (sym c.in_ok-part.ensures.part ∙ c.in-Ok.is) within.0 c.pass.ensures

pub returns-in-Err-clause-step : goal.returns-in-Err-clause-step
returns-in-Err-clause-step c = step_bad c.args.bytes.now c.args.views.now c.args.cursor.now c.args.cursor.now c.in-Err.place (sym c.in_ok-part.ensures.part ∙ c.in-Err.is)

pub returns-in-Ok-clause-takes : goal.returns-in-Ok-clause-takes
returns-in-Ok-clause-takes c = taken c.args.bytes.now c.args.views.now c.args.cursor.now c.pass.new.cursor c.in-Ok.part c.pass.result c.requires.within.at (sym c.in_ok-part.ensures.part ∙ c.in-Ok.is) c.pass.ensures

pub returns-in-Err-clause-takes : goal.returns-in-Err-clause-takes
returns-in-Err-clause-takes c = refused c.args.bytes.now c.args.views.now c.args.cursor.now c.args.cursor.now c.in-Err.place (sym c.in_ok-part.ensures.part ∙ c.in-Err.is)
