-- What is taken is not refused.
use Rattle.std.proofs.Common.{◌≡◌, ◌≤◌, ℕ, List, length, None, Ok, Err, ap, sym, ◌∙◌, arith, subst}
use Rattle.serde_json.specs.Data.{Data}
use Rattle.serde_json.specs.Read.{read}
use Rattle.model_history.specs.Scripts.{ScriptModel}
use Rattle.model_history.specs.Frames.{blank}
use Rattle.model_history.specs.Accepted.{TakesFrames}
use Rattle.model_history.proofs.Exclusion.{frames_taken}
use Rattle.script_json.specs.Causes.{IsTextOf}
use Rattle.script_json.specs.Reading.{parts_at}
use Rattle.script_json.proofs.ScriptLaws.{one_script}
use Rattle.recording_check.proofs.LegalRecordings.{legal_not_wrong, legal_not_bad}
use Rattle.recording_check.proofs.OneReading.{not_bad}
use Rattle.player_uses.specs.declared.outcome.Outcome.{Outcome}
use Rattle.player_uses.specs.declared.outcome.Outcome.TheVariants.{Json, Shape, Script, TooLong, BadRecording, No}
use Rattle.player_uses.specs.Refusals.{script_limit, IsAcceptedText, TakesRecording, TakesHistory, RefusedScript, RefusedRecording, RefusedHistory}

-- a text of a script has no first fault
not_at_fault : (bytes : List ℕ) → IsAcceptedText bytes → (d : Data) → IsTextOf bytes d → (place : _) → parts_at d ≡ Err place → ⊥
not_at_fault bytes good d text place fault =
    let same : d ≡ good.1.0 = cc (text.1, good.1.1.1) in
    let reading : parts_at d ≡ Ok good.0 = ap parts_at same ∙ good.1.2 in
    cc (reading, fault)

-- a script that is accepted is not refused
pub script_taken : (bytes : List ℕ) (result : Outcome) → (length bytes ≤ script_limit) × IsAcceptedText bytes → RefusedScript bytes result → ⊥
script_taken bytes Json (few, good) (short, none) = let nothing : read bytes ≡ None = none good.1.1.0 in absurd (cc (nothing, good.1.1.1))
script_taken bytes (Shape place) (few, good) (short, d, text, fault) = not_at_fault bytes good d text place fault
script_taken bytes (Script frame command fault) (few, good) (short, s, text, refused) =
    let same : s ≡ good.0 = one_script bytes s good.0 text good.1 in
    let taken : TakesFrames (blank s) s.main = subst (λ (t : ScriptModel). TakesFrames (blank t) t.main) (sym same) good.2 in
    frames_taken (blank s) s.main frame command fault taken refused
script_taken bytes (TooLong limit) (few, good) (is, long) = omega (arith, few, long)
script_taken bytes _ takes refused = refused

-- a recording is not refused
pub recording_taken : (bytes : List ℕ) (result : Outcome) → TakesRecording bytes → RefusedRecording bytes result → ⊥
recording_taken bytes (BadRecording place) (few, (s, ps, is)) (short, bad) = not_bad bytes s ps place is bad
recording_taken bytes (TooLong limit) (few, good) (is, long) = omega (arith, few, long)
recording_taken bytes _ takes refused = refused

-- nor is that of a legal history
pub history_taken : (bytes : List ℕ) (result : Outcome) → TakesHistory bytes → RefusedHistory bytes result → ⊥
history_taken bytes (No event) (few, good) (short, wrong) = legal_not_wrong 16 bytes event good wrong
history_taken bytes (BadRecording place) (few, good) (short, bad) = legal_not_bad 16 bytes place good bad
history_taken bytes (TooLong limit) (few, good) (is, long) = omega (arith, few, long)
history_taken bytes _ takes refused = refused
