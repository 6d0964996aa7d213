-- What gathering numbers into a list gives.
use Rattle.std.specs.Prelude.{◌≡◌, ℤ, Bool, true, false, List, ◌++◌, Option, Some, None, ⊤}

-- all numbers were added after those that were there; or there are none to be had
abbrev pub Gathers : Option (List ℤ) → List ℤ → Bool → List ℤ → Type 0
Gathers (Some ns) old true new = new ≡ old ++ ns
Gathers None old false new = ⊤
Gathers (Some ns) old false new = ⊥
Gathers None old true new = ⊥

-- a list before others
abbrev pub prefixed_by : {A : Type 0} → List A → Option (List A) → Option (List A)
prefixed_by xs (Some ys) = Some (xs ++ ys)
prefixed_by xs None = None
