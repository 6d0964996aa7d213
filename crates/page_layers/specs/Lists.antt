-- Changing or taking out one element of a list.
use Rattle.std.specs.Prelude.{Bool, cond, List, [], ◌∷◌}

-- the list in which the first element that passes is changed; the list without it
abbrev pub with_first_changed : {A : Type 0} → (A → Bool) → (A → A) → List A → List A
with_first_changed p f [] = []
with_first_changed p f (x ∷ xs) = cond (p x) (f x ∷ xs) (x ∷ with_first_changed p f xs)

abbrev pub without_first : {A : Type 0} → (A → Bool) → List A → List A
without_first p [] = []
without_first p (x ∷ xs) = cond (p x) xs (x ∷ without_first p xs)
