use Rattle.std.proofs.Common.{◌∷◌, [], ◌++◌}
use Rattle.model_history.proofs.Grown.{legal_alike, tells_alike}
use Rattle.model_history.proofs.GrownSteps.{reads_input}
use Rattle.model_history.proofs.laws_growth.an_input_may_follow.Goals as goal

pub returns : goal.returns
returns c = record {
  reads = reads_input;
  legal = λ s n h x l q. legal_alike s n h s.main (s.inputs ++ x ∷ []) l q (reads_input s n h x l);
  tells = λ s n h x l q. tells_alike s n h s.main (s.inputs ++ x ∷ []) l q (reads_input s n h x l);
}
