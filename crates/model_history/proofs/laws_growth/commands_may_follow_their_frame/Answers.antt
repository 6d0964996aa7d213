use Rattle.model_history.specs.Growth.{with_last}
use Rattle.model_history.proofs.Grown.{legal_alike, tells_alike}
use Rattle.model_history.proofs.GrownSteps.{reads_commands, one_waits}
use Rattle.model_history.proofs.laws_growth.commands_may_follow_their_frame.Goals as goal

pub returns : goal.returns
returns c = record {
  waits = one_waits;
  reads = reads_commands;
  legal = λ s n h cs l q few. legal_alike s n h (with_last cs s.main) s.inputs l q (reads_commands s n h cs l few);
  tells = λ s n h cs l q few. tells_alike s n h (with_last cs s.main) s.inputs l q (reads_commands s n h cs l few);
}
