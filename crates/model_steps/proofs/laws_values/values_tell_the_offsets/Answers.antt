use Rattle.model_steps.proofs.StandingFacts.{active_offsets_are, pending_offsets_are, pending_is, accepted_is, clamp_is}
use Rattle.model_steps.proofs.laws_values.values_tell_the_offsets.Goals as goal

pub returns : goal.returns
returns c = record {
  active = active_offsets_are;
  pending = pending_offsets_are;
  pending_offset = λ s workers h sc ax legal. pending_is s workers h legal sc ax;
  accepted = λ s workers h sc ax asked legal. accepted_is s workers h legal sc ax asked;
  clamp = λ s workers h sc ax legal. clamp_is s workers h legal sc ax;
}
