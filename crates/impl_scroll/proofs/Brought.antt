-- How large the moves of an activation are.
use Rattle.std.proofs.Common.{ℕ, ℤ, ◌^◌, ◌-◌, ◌≤◌, pos, ◌+ℤ◌, ◌-ℤ◌, ◌≤ℤ◌, Bool, true, false, arith}
use Rattle.std.specs.Int.RustNames.{FitsSigned}
use Rattle.std.specs.Prelude.{neg_ℤ}
use Rattle.std.proofs.lemmas.Int.{ints, clamps}
use mir.Syntax.{w64}
use Rattle.model_states.specs.declared.Synced.{Synced}
use Rattle.model_states.specs.Table.{pending_value}
use Rattle.model_states.specs.Bounds.{IsBoundedNumber, IsBounded}
use Rattle.page_layers.specs.Scrolls.{clamp_to}
use Rattle.model_steps.specs.Standing.{brought_to}

fits : (pb d p : ℤ) → IsBoundedNumber pb → IsBoundedNumber d → IsBoundedNumber p → (to : ℤ) → neg_ℤ (pos (2 ^ 58)) ≤ℤ to → to ≤ℤ pos (2 ^ 58) → FitsSigned w64 (to -ℤ ((pb +ℤ d) -ℤ p))
fits pb d p a b c to l u = omega (arith, ints, a.above, a.below, b.above, b.below, c.above, c.below, l, u)

clamp_low : (m : ℕ) (z : ℤ) → neg_ℤ (pos (2 ^ 58)) ≤ℤ clamp_to m z
unfolding clamp_to
clamp_low m z = omega (arith, ints, clamps)

clamp_high : (m : ℕ) (z : ℤ) → m ≤ 2 ^ 20 → clamp_to m z ≤ℤ pos (2 ^ 58)
unfolding clamp_to
clamp_high m z l = omega (arith, ints, clamps, l)

pub gap_fits : (b : Bool) (m : ℕ) (v : Synced) → IsBounded v → m ≤ 2 ^ 20 → FitsSigned w64 (brought_to b m v -ℤ pending_value v)
gap_fits true m v i l = fits v.pending_base v.active_delta v.reflected_pending i.pending_base i.active_delta i.reflected_pending v.pending_base (omega (arith, ints, i.pending_base.above)) (omega (arith, ints, i.pending_base.below))
gap_fits false m v i l = fits v.pending_base v.active_delta v.reflected_pending i.pending_base i.active_delta i.reflected_pending (clamp_to m (pending_value v)) (clamp_low m (pending_value v)) (clamp_high m (pending_value v) l)
