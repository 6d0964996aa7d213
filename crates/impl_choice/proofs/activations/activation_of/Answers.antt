-- The keys that are needed are pinned, and of the ready keys those go that the tree lacks.
use Rattle.std.proofs.Common.{◌∙◌, ap}
use Rattle.geom.specs.KeyLists.{has_key}
use Rattle.model_history.specs.Tiles.{pending_tree}
use Rattle.impl_choice.proofs.Activating.{dead_there}
use Rattle.impl_choice.proofs.activations.activation_of.Goals as goal

pub returns : goal.returns
returns c = λ s h holds seen keys. record {
  pins = λ q. c.in_ok-pins.ensures q ∙ ap (λ ks. has_key ks q) keys;
  dead = dead_there s h c.args.manager.now c.in_ok-dead.dead holds (c.in_ok-dead.ensures (pending_tree s h) seen);
}
