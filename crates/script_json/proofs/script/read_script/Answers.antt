use Rattle.std.proofs.Common.{Err, subst}
use Rattle.model_history.specs.declared.script_error.ScriptError.{ScriptError}
use Rattle.model_history.specs.Judging.{Judged}
use Rattle.model_history.specs.Scripts.{script_of}
use Rattle.script_json.proofs.script.read_script.Goals as goal

pub returns-in-Err-Command : goal.returns-in-Err-Command
returns-in-Err-Command c =
    let P : ScriptError → Type 0 = λ error. Judged (script_of c.in-Ok.parts) (Err error) in
    (script_of c.in-Ok.parts, c.in-Ok.ensures.cause, subst P c.in-Err-Command.field-0-is c.in-Err-Command.ensures)
