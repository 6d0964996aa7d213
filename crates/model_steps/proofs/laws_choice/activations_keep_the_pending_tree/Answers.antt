use Rattle.model_steps.proofs.TreesAfter.{none_is_pending, activate_active}
use Rattle.model_steps.proofs.ReadyAfter.{activate_live, activate_ready}
use Rattle.model_steps.proofs.laws_choice.activations_keep_the_pending_tree.Goals as goal

pub returns : goal.returns
returns c = record { pending = none_is_pending; active = activate_active; live = activate_live; ready = activate_ready }
