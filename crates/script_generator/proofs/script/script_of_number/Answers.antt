-- A made script is accepted, so no command is refused.
use Rattle.std.proofs.Common.{Err, ◌∙◌, ap, subst}
use Rattle.model_history.specs.declared.script_error.ScriptError.TheVariants as error
use Rattle.model_history.specs.Scripts.{ScriptModel, script_of}
use Rattle.model_history.specs.Ranges.{is_in_ranges, are_short}
use Rattle.model_history.specs.Frames.{blank}
use Rattle.model_history.specs.Judging.{Judged, RefusedAt}
use Rattle.model_history.proofs.Exclusion.{frames_taken}
use Rattle.script_generator.specs.Generated.{script_of_number}
use Rattle.script_generator.proofs.Scripts.{made_ranges, made_short, made_taken}
use Rattle.script_generator.proofs.script.script_of_number.Goals as goal

pub new-requires-clause-ranges : goal.new-requires-clause-ranges
new-requires-clause-ranges c = ap (λ (s : ScriptModel). is_in_ranges s) c.in_ok-parts.ensures ∙ made_ranges c.args.number

pub new-requires-clause-short : goal.new-requires-clause-short
new-requires-clause-short c = ap (λ (s : ScriptModel). are_short s.main) c.in_ok-parts.ensures ∙ made_short c.args.number

pub unreachable-requires : goal.unreachable-requires
unreachable-requires c =
    let k = c.in-Err-Command.field-0-0 in
    let n = c.in-Err-Command.field-0-1 in
    let fault = c.in-Err-Command.field-0-2 in
    let s = script_of_number c.args.number in
    let judged : Judged (script_of c.in_ok-parts.parts) (Err (error.Command k n fault)) = subst (Judged (script_of c.in_ok-parts.parts)) (c.in-Err-Command.is ∙ ap Err c.in-Err-Command.field-0-is) c.new.ensures in
    let refused : RefusedAt (blank s) s.main k n fault = subst (λ (z : ScriptModel). RefusedAt (blank z) z.main k n fault) c.in_ok-parts.ensures judged in
    frames_taken (blank s) s.main k n fault (made_taken c.args.number) refused
