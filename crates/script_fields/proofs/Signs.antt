-- An integer below 0.
use Rattle.std.proofs.Common.{◌≡◌, ℤ, pos, negsuc, true, int_lt, refl, arith}
use Rattle.serde_json.specs.Data.{negative}
use Rattle.serde_json.specs.Find.{of_integer}

pub of_negative : (z : ℤ) → int_lt z (pos 0) ≡ true → of_integer z ≡ negative z
of_negative (pos n) e = absurd (grind arith)
of_negative (negsuc n) e = refl
