-- Whether a line is a script's.
use Rattle.std.proofs.Common.{◌≡◌, List, ℕ, refl, ap, sym, ◌∙◌, None, Some}
use Rattle.std.specs.Prelude.{Ok, Err}
use Rattle.model_history.specs.Accepted.{IsAccepted}
use Rattle.model_history.specs.Scripts.{ScriptModel}
use Rattle.script_json.specs.declared.text_fault.TextFault.{TextFault}
use Rattle.script_json.specs.Causes.{ScriptCause, IsTold}
use Rattle.script_json.specs.Recordings.{script_text}
use Rattle.script_json.proofs.OneAnswer.{one_answer}
use Rattle.script_json.proofs.TextsReadBack.{text_reads_back}
use Rattle.recording_check.specs.Openings.{IsScriptLine, ScriptOf}

-- the canonical text of an accepted script is its line
pub accepted_line : (s : ScriptModel) → IsAccepted s → IsScriptLine (script_text s) s
accepted_line s accepted = record { reads = text_reads_back s accepted.ranges; accepted = accepted; canonical = refl }

-- it reads as a script, and is what is printed for that
pub is_line : (line text : List ℕ) (s : ScriptModel) → ScriptCause line (Ok s) → text ≡ script_text s → text ≡ line → ScriptOf line (Some s)
is_line line text s cause printed same = record { reads = cause.0; accepted = cause.1; canonical = sym same ∙ printed }

-- it is not what is printed for the script that it reads as
pub other_line : (line text : List ℕ) (s : ScriptModel) → ScriptCause line (Ok s) → text ≡ script_text s → (text ≡ line → ⊥) → ScriptOf line None
other_line line text s cause printed other = λ t is.
    let answers : Ok s ≡ Ok t = one_answer line (Ok s) (Ok t) tt tt cause (is.reads, is.accepted) in
    let one : s ≡ t = cc (answers) in
    other (printed ∙ ap script_text one ∙ sym is.canonical)

-- it does not read as a script
pub no_script : (line : List ℕ) (fault : TextFault) → ScriptCause line (Err fault) → IsTold (Err fault) → ScriptOf line None
no_script line fault cause told = λ t is.
    let answers : Err fault ≡ Ok t = one_answer line (Err fault) (Ok t) told tt cause (is.reads, is.accepted) in
    absurd (cc (answers))
