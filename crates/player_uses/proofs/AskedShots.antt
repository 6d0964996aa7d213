-- The script that a text says, or asked for its picture, is that of its source.
use Rattle.std.proofs.Common.{◌≡◌, ℕ, ◌≤◌, true, Bool, List, length, Ok, Err, sym, ◌∙◌, subst}
use Rattle.std.specs.Prelude.{Result}
use Rattle.byte_io.specs.Logs.{since}
use Rattle.model_history.specs.Accepted.{IsAccepted}
use Rattle.model_history.specs.Ranges.{is_in_ranges}
use Rattle.model_history.specs.Scripts.{ScriptModel}
use Rattle.script_json.specs.Causes.{IsScriptText}
use Rattle.player_uses.specs.declared.outcome.Outcome.{Outcome}
use Rattle.player_uses.specs.declared.outcome.Outcome.TheVariants.{Json, Shape, Script, TooLong, Memory}
use Rattle.player_uses.specs.inner.Inputs.{ReadWhole}
use Rattle.player_uses.specs.inner.Parts.{JudgedParts, RefusedParts}
use Rattle.player_uses.specs.inner.Shots.{JudgedShot, ShotIn}
use Rattle.player_uses.specs.Reading.{IsJudgedWhole}
use Rattle.player_uses.specs.Refusals.{script_limit}
use Rattle.player_uses.specs.Scripts.{IsNone, IsNoneOf, IsStopped, ScriptIn, ScriptFrom}
use Rattle.player_uses.specs.Shots.{ShotFrom, with_shot}
use Rattle.player_uses.proofs.AskedScripts.{said_accepted}

-- where the bytes say a script that is refused, there is none
refused_none : (bytes : List ℕ) (said : ScriptModel) (o : Outcome) → length bytes ≤ script_limit → IsScriptText bytes said → RefusedParts said o → IsNone bytes o
refused_none bytes said (Script frame command fault) few text refused = (few, said, text, refused)
refused_none bytes said Memory few text refused = tt
refused_none bytes said _ few text refused = absurd refused

-- a script whose parts the bytes say, or why it is refused
pub script_in : (bytes : List ℕ) (said : ScriptModel) (result : Result ScriptModel Outcome) → length bytes ≤ script_limit → IsScriptText bytes said → JudgedParts said result → ScriptIn bytes result
script_in bytes said (Ok s) few text (is, accepted) = (subst (IsScriptText bytes) (sym is) text, subst IsAccepted (sym is) accepted)
script_in bytes said (Err o) few text refused = refused_none bytes said o few text refused

-- the same of one that was asked for its picture
pub shot_in : (bytes : List ℕ) (said : ScriptModel) (result : Result ScriptModel Outcome) → length bytes ≤ script_limit → IsScriptText bytes said → JudgedShot said result → ShotIn bytes result
shot_in bytes said (Ok s) few text (is, accepted) = record { said = said; text = text; accepted = accepted; asked = is }
shot_in bytes said (Err o) few text refused = refused_none bytes said o few text refused

-- its other inputs are no matter of the commands
asked_refused : (said : ScriptModel) (o : Outcome) → RefusedParts (with_shot said) o → RefusedParts said o
asked_refused said (Script frame command fault) refused = refused
asked_refused said Memory refused = tt
asked_refused said _ refused = absurd refused

pub asked_judged : (said asked : ScriptModel) (result : Result ScriptModel Outcome) → is_in_ranges said ≡ true → asked ≡ with_shot said → JudgedParts asked result → JudgedShot said result
asked_judged said asked (Ok s) fits is (same, accepted) = (same ∙ is, said_accepted said fits (subst IsAccepted is accepted))
asked_judged said asked (Err o) fits is refused = asked_refused said o (subst (λ (m : ScriptModel). RefusedParts m o) is refused)

-- what the bytes of a source say that was read to its end
module _ (old new : List ℕ) (ended : Bool) (bytes : List ℕ) (read : ReadWhole script_limit old new ended bytes) where
  given : (o : Outcome) → IsNoneOf bytes o → IsNoneOf (since old new) o
  given o none = subst (λ (xs : List ℕ). IsNoneOf xs o) (sym read.0) none

  none_of : (o : Outcome) → IsNone bytes o → IsNoneOf (since old new) o × IsJudgedWhole ended o × IsStopped o
  none_of Json none = (given Json none, read.1, tt)
  none_of (Shape fault) none = (given (Shape fault) none, read.1, tt)
  none_of (Script frame command fault) none = (given (Script frame command fault) none, read.1, tt)
  none_of (TooLong limit) none = (given (TooLong limit) none, tt, tt)
  none_of Memory none = (tt, tt, tt)
  none_of _ none = absurd none

  pub shot_from : (result : Result ScriptModel Outcome) → ShotIn bytes result → ShotFrom (since old new) ended result
  shot_from (Ok s) asked = record {
    said = asked.said;
    text = subst (λ (xs : List ℕ). (length xs ≤ script_limit) × IsScriptText xs asked.said) (sym read.0) (read.2, asked.text);
    accepted = asked.accepted;
    asked = asked.asked;
    whole = read.1;
  }
  shot_from (Err o) none = none_of o none

  -- the script itself
  pub script_from : (result : Result ScriptModel Outcome) → ScriptIn bytes result → ScriptFrom (since old new) ended result
  script_from (Ok s) (text, accepted) = (subst (λ (xs : List ℕ). (length xs ≤ script_limit) × IsScriptText xs s) (sym read.0) (read.2, text), read.1, accepted)
  script_from (Err o) none = none_of o none
