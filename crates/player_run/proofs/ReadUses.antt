-- What is said of `frames` and `check` below the other uses is what is said of these uses.
use Rattle.std.proofs.Common.{ℕ, List}
use Rattle.std.specs.Prelude.{Option}
use Rattle.player_uses.specs.declared.outcome.Outcome.{Outcome}
use Rattle.player_uses.specs.declared.outcome.Outcome.TheVariants.{Done}
use Rattle.player_uses.specs.declared.words.Use.TheVariants.{Frames, Check}
use Rattle.player_uses.specs.Outputs.{DeliversImages}
use Rattle.player_uses.specs.Refusals.{ExplainsImages, ExplainsJudgement}
use Rattle.player_run.specs.Runs.{CauseOf, CauseFrom, Writes}

pub frames_input : (bytes : List ℕ) (o : Outcome) → ExplainsImages bytes o → CauseOf Frames bytes o
frames_input bytes Done is = is
frames_input bytes _ is = is

pub check_input : (bytes : List ℕ) (o : Outcome) → ExplainsJudgement bytes o → CauseOf Check bytes o
check_input bytes Done is = is
check_input bytes _ is = is

pub frames_output : (source : List ℕ) (old new : Option (List ℕ)) (o : Outcome) → DeliversImages source old new o → Writes Frames source old new o
frames_output source old new Done is = is
frames_output source old new _ is = is
