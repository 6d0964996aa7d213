use Rattle.model_steps.proofs.ReadyAfter.{were, ready_kept}
use Rattle.model_steps.proofs.laws_tiles.ready_keys_were_ready.Goals as goal

pub returns : goal.returns
returns c = record {
  made = λ s workers h q legal t. (were s workers h legal).of_made q t;
  in_flight = λ s workers h q legal t. (were s workers h legal).of_flying q t;
  ready = ready_kept;
}
