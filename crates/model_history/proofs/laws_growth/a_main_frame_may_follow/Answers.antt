use Rattle.std.proofs.Common.{◌∷◌, [], ◌++◌}
use Rattle.model_history.proofs.Grown.{legal_alike, tells_alike}
use Rattle.model_history.proofs.GrownSteps.{reads_main_frame}
use Rattle.model_history.proofs.laws_growth.a_main_frame_may_follow.Goals as goal

pub returns : goal.returns
returns c = record {
  reads = reads_main_frame;
  legal = λ s n h l q. legal_alike s n h (s.main ++ [] ∷ []) s.inputs l q (reads_main_frame s n h l);
  tells = λ s n h l q. tells_alike s n h (s.main ++ [] ∷ []) s.inputs l q (reads_main_frame s n h l);
}
