-- What the steps do to the two offsets.
use Rattle.std.specs.Prelude.{◌≡◌, ℤ, ◌+ℤ◌}
use Rattle.model_states.specs.declared.synced.Synced.{Synced}
use Rattle.model_states.specs.Table.{active_value, pending_value}

-- a step leaves both offsets where they are
pub record KeepsValues (step : Synced → Synced) : Type 0 where
  pub active : (s : Synced) → active_value (step s) ≡ active_value s
  pub pending : (s : Synced) → pending_value (step s) ≡ pending_value s

-- after a step both offsets are what the pending one was
pub record FollowsPending (step : Synced → Synced) : Type 0 where
  pub active : (s : Synced) → active_value (step s) ≡ pending_value s
  pub pending : (s : Synced) → pending_value (step s) ≡ pending_value s

-- a step moves both offsets by the same amount
pub record AddsToBoth (step : ℤ → Synced → Synced) : Type 0 where
  pub active : (x : ℤ) (s : Synced) → active_value (step x s) ≡ active_value s +ℤ x
  pub pending : (x : ℤ) (s : Synced) → pending_value (step x s) ≡ pending_value s +ℤ x
