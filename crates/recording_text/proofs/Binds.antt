-- Steps that gave something, taken apart.
use Rattle.std.proofs.Common.{◌≡◌, refl, None, Some, true, false}
use Rattle.std.specs.Prelude.{Bool, Option, if◌then◌else◌}
use Rattle.recording_text.specs.Numbers.{◌>>=◌}

pub bind_some : {A B : Type 0} (o : Option A) (f : A → Option B) (y : B) → (o >>= f) ≡ Some y → (x : A) × (o ≡ Some x) × (f x ≡ Some y)
bind_some None f y is = absurd (cc (is))
bind_some (Some x) f y is = (x, refl, is)

-- a choice that is something, either way
pub either_way : {A P : Type 0} (b : Bool) (x y r : A) → (if b then x else y) ≡ r → (x ≡ r → P) → (y ≡ r → P) → P
either_way true x y r is first second = first is
either_way false x y r is first second = second is
