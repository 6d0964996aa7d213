-- Pieces of a recording, judged one after another.
use Rattle.std.specs.Prelude.{◌≡◌, ℕ, List, [], ◌∷◌, ◌++◌, length, Option, Some, None, Result, Ok, Err}
use Rattle.model_history.specs.Scripts.{ScriptModel}
use Rattle.impl_log.specs.Runs.{Run}
use Rattle.recording_text.specs.declared.cursor.EventSpan.{EventSpan}
use Rattle.recording_text.specs.BadParts.{StopsAt}
use Rattle.recording_text.specs.Bodies.{ArePiecesFrom}
use Rattle.recording_text.specs.Pieces.{Piece, entries}
use Rattle.recording_text.specs.Taking.{IsImageAt}
use Rattle.recording_text.specs.Views.{ViewTable}
use Rattle.recording_check.specs.declared.verdict.Verdict.{Verdict}
use Rattle.recording_check.specs.declared.verdict.Verdict.TheVariants.{Good, No}
use Rattle.recording_check.specs.Verdicts.{AreRightPieces, IsWrongAt}

-- what is said if this piece is the first that is wrong, or none is
abbrev pub verdict_where : Option ℕ → Verdict
verdict_where None = Good
verdict_where (Some place) = No place

-- the pieces are right, and the run has their entries; or this one is the first that is wrong
abbrev pub AreJudged : List Piece → Run → Option ℕ → Type 0
AreJudged ps r None = (r.entries ≡ entries ps) × AreRightPieces r.script r.workers [] ps
AreJudged ps r (Some place) = IsWrongAt r.script r.workers ps place

-- one piece more was judged
pub record JudgesNext (bytes : List ℕ) (old : Run) (wrong : Option ℕ) (index : ℕ) (step : EventSpan) (new : Run) (now : Option ℕ) : Type 0 where
  pub script : new.script ≡ old.script
  pub workers : new.workers ≡ old.workers
  pub judged : (ps : List Piece) (image : List ℕ) → IsImageAt bytes step.image image → index ≡ length ps → AreJudged ps old wrong → AreJudged (ps ++ record { event = step.event; image = image } ∷ []) new now

-- what stands after the given number of bytes is pieces, all of them right; or this one is the first that is wrong; or a part that is not of its form begins here
abbrev pub JudgesParts : List ℕ → ScriptModel → ℕ → ViewTable → ℕ → Result Verdict ℕ → Type 0
JudgesParts bytes s workers t start (Ok Good) = (ps : List Piece) × ArePiecesFrom bytes t start ps × AreRightPieces s workers [] ps
JudgesParts bytes s workers t start (Ok (No place)) = (ps : List Piece) × ArePiecesFrom bytes t start ps × IsWrongAt s workers ps place
JudgesParts bytes s workers t start (Err place) = StopsAt bytes t start place
