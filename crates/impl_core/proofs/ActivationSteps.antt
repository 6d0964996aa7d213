-- The activation that may come now.
use Rattle.std.proofs.Common.{◌≡◌, ℕ, true, List, ◌∷◌, Some, is_some, refl, arith}
use Rattle.model_states.specs.declared.kind.Kind.TheVariants as kind
use Rattle.page_layers.specs.declared.moves.Move.{Move}
use Rattle.model_history.specs.declared.event.Event.TheVariants as event
use Rattle.model_history.specs.declared.history.Entry.{Entry}
use Rattle.model_history.specs.Scripts.{ScriptModel}
use Rattle.model_history.specs.Frames.{pending}
use Rattle.model_history.specs.Scrolls.{next_clamps}
use Rattle.model_history.specs.Legal.{can, Legal}
use Rattle.model_steps.specs.Events.{activate}
use Rattle.impl_core.proofs.MayCome.{activation_now, comes_next}

-- it may come with these moves
pub record OfActivation (s : ScriptModel) (n : ℕ) (h : List Entry) (k : ℕ) (ms : List Move) : Type 0 where
  pub may_come : can s h kind.Activate 0 ≡ Some (event.Activate k ms)
  pub legal : Legal s n (activate 0 k ms ∷ h)

pub of_activation : (s : ScriptModel) (n : ℕ) (h : List Entry) (k : ℕ) (ms : List Move) → Legal s n h → is_some (can s h kind.Activate 0) ≡ true → pending h ≡ Some k → ms ≡ next_clamps s h → OfActivation s n h k ms
of_activation s n h k ms legal may waits clamps =
    let may_come = activation_now s h may k waits ms clamps in
    record { may_come = may_come; legal = comes_next s n h 0 (event.Activate k ms) legal may_come refl (omega arith) }
