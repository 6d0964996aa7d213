-- What is said where a source was not read to its end.
use Rattle.std.proofs.Common.{ℕ, Bool, List, arith}
use Rattle.std.specs.Prelude.{Ok, Err}
use Rattle.byte_io.specs.Logs.{since}
use Rattle.player_uses.specs.declared.outcome.Outcome.{Outcome}
use Rattle.player_uses.specs.declared.outcome.Outcome.TheVariants.{Usage, ReadFault, WriteFault, TooLong, Memory}
use Rattle.player_uses.specs.declared.words.Use.TheVariants.{Check}
use Rattle.player_uses.specs.Answers.{TellsMisfit, AnswersScript, AnswersImages, AnswersJudged}
use Rattle.player_uses.specs.Faults.{Causes, IsSilent, RefusedBy}
use Rattle.player_uses.specs.Reading.{IsJudgedWhole}
use Rattle.player_uses.specs.Refusals.{script_limit, recording_limit, ExplainsImages, ExplainsJudgement}
use Rattle.player_uses.specs.Scripts.{IsNoneOf, IsStopped}
use Rattle.player_uses.specs.inner.Inputs.{IsFailedRead, StoppedAt}

-- a read that failed stops it
pub failed_stops : (limit : ℕ) (old new : List ℕ) (o : Outcome) → IsFailedRead o → StoppedAt limit old new o
failed_stops limit old new (TooLong most) failed = absurd failed
failed_stops limit old new _ failed = failed

-- ---- of a script

pub no_script : (old new : List ℕ) (ended : Bool) (o : Outcome) → StoppedAt script_limit old new o → IsNoneOf (since old new) o × IsJudgedWhole ended o × IsStopped o
no_script old new ended (TooLong most) (is, long) = ((is, omega (arith, long)), tt, tt)
no_script old new ended ReadFault stopped = (tt, tt, tt)
no_script old new ended Memory stopped = (tt, tt, tt)
no_script old new ended _ stopped = absurd stopped

pub answers_script : (old new : List ℕ) (o : Outcome) → StoppedAt script_limit old new o → AnswersScript o
answers_script old new (TooLong most) (is, long) = is
answers_script old new ReadFault stopped = tt
answers_script old new Memory stopped = tt
answers_script old new _ stopped = absurd stopped

-- ---- of a recording

pub no_images : (old new : List ℕ) (ended : Bool) (o : Outcome) → StoppedAt recording_limit old new o → ExplainsImages (since old new) o × IsJudgedWhole ended o × IsStopped o
no_images old new ended (TooLong most) (is, long) = ((is, omega (arith, long)), tt, tt)
no_images old new ended ReadFault stopped = (tt, tt, tt)
no_images old new ended Memory stopped = (tt, tt, tt)
no_images old new ended _ stopped = absurd stopped

pub answers_images : (old new : List ℕ) (o : Outcome) → StoppedAt recording_limit old new o → AnswersImages o
answers_images old new (TooLong most) (is, long) = is
answers_images old new ReadFault stopped = tt
answers_images old new Memory stopped = tt
answers_images old new _ stopped = absurd stopped

-- ---- of a recording that was to be judged

pub unjudged_words : (old new : List ℕ) (o : Outcome) → StoppedAt recording_limit old new o → TellsMisfit (Ok Check) o
unjudged_words old new (Usage word) stopped = absurd stopped
unjudged_words old new _ stopped = tt

pub unjudged_input : (old new : List ℕ) (o : Outcome) → StoppedAt recording_limit old new o → ExplainsJudgement (since old new) o
unjudged_input old new (TooLong most) (is, long) = (is, omega (arith, long))
unjudged_input old new ReadFault stopped = tt
unjudged_input old new Memory stopped = tt
unjudged_input old new _ stopped = absurd stopped

pub unjudged_end : (old new : List ℕ) (ended : Bool) (o : Outcome) → StoppedAt recording_limit old new o → IsJudgedWhole ended o
unjudged_end old new ended o stopped = (no_images old new ended o stopped).1

pub unjudged_silent : (old new : List ℕ) (o : Outcome) → StoppedAt recording_limit old new o → IsSilent o
unjudged_silent old new WriteFault stopped = absurd stopped
unjudged_silent old new _ stopped = tt

pub unjudged_causes : (old new : List ℕ) (a b p q : ℕ) (o : Outcome) → StoppedAt recording_limit old new o → RefusedBy {X = Unit {0}} a b (Err o) → Causes a b p q o
unjudged_causes old new a b p q ReadFault stopped rose = rose
unjudged_causes old new a b p q WriteFault stopped rose = absurd stopped
unjudged_causes old new a b p q _ stopped rose = tt

pub unjudged_answers : (old new : List ℕ) (o : Outcome) → StoppedAt recording_limit old new o → AnswersJudged o
unjudged_answers old new (TooLong most) (is, long) = is
unjudged_answers old new ReadFault stopped = tt
unjudged_answers old new Memory stopped = tt
unjudged_answers old new _ stopped = absurd stopped
