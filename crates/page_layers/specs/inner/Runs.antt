-- The layers of one group that stand together.
use Rattle.std.specs.Prelude.{ℕ, ◌==◌, Bool, false, List, [], ◌∷◌, drop}

-- whether this effect is the first of the groups
abbrev pub first_is : ℕ → List ℕ → Bool
first_is e [] = false
first_is e (f ∷ fs) = e == f

-- whether a layer that lies in these groups lies in the effect's group at this depth
abbrev pub lies_in : {A : Type 0} → (A → List ℕ) → ℕ → ℕ → A → Bool
lies_in groups_of depth e l = first_is e (drop depth (groups_of l))
