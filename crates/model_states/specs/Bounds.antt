-- How large the scroll values may be, so that no step overflows.
use Rattle.std.specs.Prelude.{ℤ, pos, negsuc, ◌-◌, ◌^◌, ◌<ℤ◌}
use Rattle.model_states.specs.declared.synced.Synced.{Synced}

-- a number whose absolute value is below 2^58
pub record IsBoundedNumber (z : ℤ) : Type 0 where
  pub above : negsuc (2 ^ 58 - 1) <ℤ z
  pub below : z <ℤ pos (2 ^ 58)

-- all five values are such numbers
pub record IsBounded (s : Synced) : Type 0 where
  pub active_base : IsBoundedNumber s.active_base
  pub active_delta : IsBoundedNumber s.active_delta
  pub pending_base : IsBoundedNumber s.pending_base
  pub reflected_main : IsBoundedNumber s.reflected_main
  pub reflected_pending : IsBoundedNumber s.reflected_pending
