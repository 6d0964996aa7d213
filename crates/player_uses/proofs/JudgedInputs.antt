-- What is said of the bytes of a source that were judged.
use Rattle.std.proofs.Common.{ℕ, ◌≤◌, Bool, List, length, sym, subst}
use Rattle.std.specs.Prelude.{Ok}
use Rattle.byte_io.specs.Logs.{since}
use Rattle.player_uses.specs.declared.outcome.Outcome.{Outcome}
use Rattle.player_uses.specs.declared.outcome.Outcome.TheVariants.{Done, Usage, ReadFault, WriteFault, TooLong, BadRecording, No, Memory}
use Rattle.player_uses.specs.declared.words.Use.TheVariants.{Check}
use Rattle.player_uses.specs.inner.Inputs.{ReadWhole}
use Rattle.player_uses.specs.inner.Judged.{IsJudgement}
use Rattle.player_uses.specs.Answers.{TellsMisfit}
use Rattle.player_uses.specs.Faults.{Causes, IsSilent}
use Rattle.player_uses.specs.Reading.{IsJudgedWhole}
use Rattle.player_uses.specs.Refusals.{ExplainsJudgement, recording_limit}

judged_cause : (bytes : List ℕ) (o : Outcome) → length bytes ≤ recording_limit → IsJudgement bytes o → ExplainsJudgement bytes o
judged_cause bytes Done few is = (few, is)
judged_cause bytes (No event) few is = (few, is)
judged_cause bytes (BadRecording place) few is = (few, is)
judged_cause bytes Memory few is = tt
judged_cause bytes _ few is = absurd is

-- the cause, by the bytes that the source gave
pub judged_input : (old new : List ℕ) (ended : Bool) (bytes : List ℕ) (o : Outcome) → ReadWhole recording_limit old new ended bytes → IsJudgement bytes o → ExplainsJudgement (since old new) o
judged_input old new ended bytes o whole is = subst (λ (xs : List ℕ). ExplainsJudgement xs o) (sym whole.0) (judged_cause bytes o whole.2 is)

-- the answer is one of four
pub judged_words : (bytes : List ℕ) (o : Outcome) → IsJudgement bytes o → TellsMisfit (Ok Check) o
judged_words bytes (Usage word) is = absurd is
judged_words bytes _ is = tt

pub judged_silent : (bytes : List ℕ) (o : Outcome) → IsJudgement bytes o → IsSilent o
judged_silent bytes WriteFault is = absurd is
judged_silent bytes _ is = tt

pub judged_causes : (bytes : List ℕ) (a b p q : ℕ) (o : Outcome) → IsJudgement bytes o → Causes a b p q o
judged_causes bytes a b p q ReadFault is = absurd is
judged_causes bytes a b p q WriteFault is = absurd is
judged_causes bytes a b p q _ is = tt

-- the source said that no more come
pub judged_end : (old new : List ℕ) (ended : Bool) (bytes : List ℕ) (o : Outcome) → ReadWhole recording_limit old new ended bytes → IsJudgedWhole ended o
judged_end old new ended bytes (Usage word) whole = tt
judged_end old new ended bytes ReadFault whole = tt
judged_end old new ended bytes (TooLong limit) whole = tt
judged_end old new ended bytes Memory whole = tt
judged_end old new ended bytes _ whole = whole.1
