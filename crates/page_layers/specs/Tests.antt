-- What a command is tested for: each test passes or names its fault.
use Rattle.std.specs.Prelude.{ℕ, ℤ, pos, int_lt, Bool, true, false, cond, Result, Ok, Err, ⊤}
use Rattle.geom.specs.Limits.{max_id, max_side}
use Rattle.page_layers.specs.declared.fault.EditFault.{EditFault}
use Rattle.page_layers.specs.declared.fault.EditFault.TheVariants as fault

infixl 10 ◌>>=◌
-- the second test if the first passes, else the fault of the first
abbrev pub ◌>>=◌ : {A B : Type 0} → Result A EditFault → (A → Result B EditFault) → Result B EditFault
(Ok x) >>= f = f x
(Err e) >>= f = Err e

-- passes if the condition holds
abbrev pub require : Bool → EditFault → Result ⊤ EditFault
require true fault = Ok tt
require false fault = Err fault

-- passes if the value lies in the range; else it is out of range, with the end that it passes
unfoldable pub check_range : ℤ → ℤ → ℤ → Result ⊤ EditFault
check_range value low high = cond (int_lt value low) (Err (fault.OutOfRange value low)) (cond (int_lt high value) (Err (fault.OutOfRange value high)) (Ok tt))

-- a new id: 1 to 65535; a layer's size: both sides 1 to 16384
unfoldable pub is_id : ℕ → Result ⊤ EditFault
is_id id = check_range (pos id) (pos 1) (pos max_id)

unfoldable pub is_size : ℕ → ℕ → Result ⊤ EditFault
is_size w h = do
  _ ← check_range (pos w) (pos 1) (pos max_side)
  check_range (pos h) (pos 1) (pos max_side)
